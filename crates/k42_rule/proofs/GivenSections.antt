-- What a pass has kept once a section has taken it.
use Rattle.std.proofs.Common.{◌≡◌, ℕ, ◌<◌, List, [], Some, drop, length, sym, ap, ◌∙◌, subst, arith}
use Rattle.std.specs.List.{slice_get}
use Rattle.std.proofs.Math.Seq.{drop-length}
use Rattle.std.proofs.lemmas.List.{take_all}
use Rattle.k42_kinds.specs.declared.entry.Entry.{Entry}
use Rattle.k42_places.specs.Places.{EachPlace}
use Rattle.k42_board.specs.Seen.{Keeping, kept_of}
use Rattle.k42_board.specs.declared.keep.Keep.{Keep}
use Rattle.k42_board.specs.declared.keep.Keep.TheVariants as keeps
use Rattle.k42_log.specs.Logs.{LogSeen}
use Rattle.k42_rule.specs.Keeping.{HasKept, first_of}

-- none is left behind all
each_past : {O R : Type 0} (P : Entry O R → Type 0) (mine : List (Entry O R)) (many : ℕ) → many ≡ length mine → EachPlace (λ place entry. P entry) (drop many mine)
each_past {O} {R} P mine many is =
    subst (EachPlace (λ place (entry : Entry O R). P entry)) (sym (ap (λ n. drop n mine) is ∙ drop-length mine)) (λ place entry at. absurd (cc))

pub kept_none : {O R : Type 0} (keep : Keeping) (number home : ℕ) (mine : List (Entry O R)) (kept after : LogSeen O R) (clock drawn : ℕ) → keep.what ≡ keeps.Sections → HasKept keep number home mine clock kept
    → drawn ≡ length mine → after ≡ record { owner = record { caller = number; proc = home }; first = drawn; entries = []; room = 0 }
    → HasKept (record keep { given = drawn; since = clock }) number home mine clock after
kept_none {O} {R} keep number home mine kept after clock drawn what old all none = record {
  owner = ap (λ (l : LogSeen O R). l.owner) none;
  first = ap (λ (l : LogSeen O R). l.first) none ∙ sym (ap (λ (k : Keep). first_of k drawn) what);
  kept_is = ap (λ (l : LogSeen O R). l.entries) none ∙ sym (ap (λ (k : Keep). kept_of k drawn mine) what ∙ ap (λ n. drop n mine) all ∙ drop-length mine);
  parted = record {
    few = omega (arith, all);
    given = λ place entry at. old.below place entry (subst (λ (entries : List (Entry O R)). slice_get entries place ≡ Some entry) (take_all drawn mine (omega (arith, all))) at);
    left = each_past (λ entry. clock < entry.stamp) mine drawn all;
  };
  list = old.list;
  below = old.below;
  since = omega arith;
  few = old.few;
}
