-- How an act is spelled in a record: as in a script.
pub use Rattle.script_text.specs.Acts.{numbered_layout_word, HasWord, operation_word, argument_tokens, act_tokens}
