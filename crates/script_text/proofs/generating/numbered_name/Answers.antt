use Rattle.std.proofs.Common.{refl}
use Rattle.script_text.proofs.Numbered.{name-numbered}
use Rattle.script_text.proofs.generating.numbered_name.Goals as goal

pub unwrap-requires : goal.unwrap-requires
unwrap-requires c = c.of.ensures.spelled.1 (rw (c.as_slice.ensures.value, c.in_ok-put_numbered.ensures, name-numbered c.args.letter c.args.number c.requires c.ranges.number.fits) refl)
