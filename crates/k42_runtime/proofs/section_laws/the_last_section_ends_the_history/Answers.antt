use Rattle.k42_runtime.proofs.SectionLaws.{all_make_it, none_left}
use Rattle.k42_runtime.proofs.section_laws.the_last_section_ends_the_history.Goals as goal

pub returns-clause-all : goal.returns-clause-all
returns-clause-all g c = none_left

pub returns-clause-ends : goal.returns-clause-ends
returns-clause-ends g c = all_make_it _ c.a_merge_is_one.ensures
