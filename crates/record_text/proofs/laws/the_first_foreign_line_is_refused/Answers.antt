use Rattle.record_text.proofs.Openings.{refused_where_left}
use Rattle.record_text.proofs.laws.the_first_foreign_line_is_refused.Goals as goal

pub returns : goal.returns
returns c = λ script bytes line names small. refused_where_left script bytes names line small
