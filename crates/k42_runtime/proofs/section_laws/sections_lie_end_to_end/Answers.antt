use Rattle.k42_runtime.proofs.SectionLaws.{laid_out}
use Rattle.k42_runtime.proofs.section_laws.sections_lie_end_to_end.Goals as goal

pub returns : goal.returns
returns g c = laid_out c.a_merge_is_one.ensures
