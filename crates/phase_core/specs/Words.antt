-- The bits and the numbers of an object, apart from its entries.
use Rattle.phase_core.specs.declared.object.Word.{Word}
use Rattle.phase_core.specs.Plain.{Object}

abbrev pub word_of : Object → Word
word_of k = record {
  count = k.count;
  swap = k.swap;
  block = k.block;
  moving = k.moving;
  complete = k.complete;
  layout = k.layout;
  incarnation = k.incarnation;
  freed = k.freed;
}

abbrev pub with_word : Object → Word → Object
with_word k w = record k {
  count = w.count;
  swap = w.swap;
  block = w.block;
  moving = w.moving;
  complete = w.complete;
  layout = w.layout;
  incarnation = w.incarnation;
  freed = w.freed;
}
