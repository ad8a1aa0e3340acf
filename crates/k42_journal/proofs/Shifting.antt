-- One enters in the last one's stead, while the others that stand before it move over by one place.
use Rattle.std.proofs.Common.{◌≡◌, ℕ, suc, ◌+◌, ◌-◌, ◌<◌, ◌≤◌, false, List, [], ◌∷◌, ◌++◌, length, take, drop, get_or, set, ap, refl, sym, ◌∙◌, subst, arith, rules, drop-cons, drop_of_length-le}
use Rattle.std.specs.List.{AllByRecursion}
use Rattle.std.specs.Prelude.{Some, None, slice_get}
use Rattle.std.proofs.Math.Seq.{take-suc, take-length}
use Rattle.std.proofs.lemmas.Option.{slice_get_within, slice_get_read, get_or_from_slice_get}
use Rattle.std.proofs.lemmas.List.{take-take, length-take-le, length-set, take-set-le, drop-set, set_split, get_or-take}
use Rattle.k42_log.specs.declared.unread.Standing.{Standing}
use Rattle.k42_stamp.specs.Orders.{Ordered}
use Rattle.k42_journal.specs.Keys.{stands_before}
use Rattle.k42_journal.specs.Queues.{IsBehind, HasEntered, front_of}
use Rattle.k42_journal.proofs.Queueing.{none_before}

-- the last one of a queue

no_last_at : (queue : List Standing) → None ≡ slice_get queue (length queue - 1) → queue ≡ []
no_last_at [] none = refl
no_last_at (x ∷ queue) none =
    let all = x ∷ queue in
    let last = get_or all (length all - 1) x in
    let some : slice_get all (length all - 1) ≡ Some last = slice_get_read all (length all) (length all - 1) last refl (omega arith) (search rules) in
    absurd (cc)

pub no_last : (read queue : List Standing) → read ≡ queue → None ≡ slice_get read (length read - 1) → queue ≡ []
no_last read queue same none = sym same ∙ no_last_at read none

ends_at : (queue : List Standing) (last : Standing) → Some last ≡ slice_get queue (length queue - 1) → queue ≡ front_of queue ++ last ∷ []
ends_at queue last is =
    let place = length queue - 1 in
    let within = slice_get_within queue place last (sym is) in
    let all : suc place ≡ length queue = omega (arith, within) in
    sym (take-length queue) ∙ (ap (λ n. take n queue) (sym all) ∙ (take-suc queue place last within ∙ ap (λ one. front_of queue ++ one ∷ []) (get_or_from_slice_get queue place last last (sym is))))

pub ends_in : (read queue : List Standing) (last : Standing) → read ≡ queue → Some last ≡ slice_get read (length read - 1) → queue ≡ front_of queue ++ last ∷ []
ends_in read queue last same is = ends_at queue last (subst (λ q. Some last ≡ slice_get q (length q - 1)) same is)

-- those of the front from this place on, which stand before it, are one place further on
pub record IsShifted (standing : Standing) (front queue : List Standing) (place : ℕ) : Type 0 where
  pub long : length queue ≡ length front + 1
  pub within : place ≤ length front
  pub start : take place queue ≡ take place front
  pub end : drop (place + 1) queue ≡ drop place front
  pub others : AllByRecursion (IsBehind standing) (drop place front)

pub shifted_none : (standing : Standing) (queue : List Standing) → 0 < length queue → IsShifted standing (front_of queue) queue (length queue - 1)
shifted_none standing queue some =
    let few : length queue - 1 ≤ length queue = omega arith in
    let long : length (front_of queue) ≡ length queue - 1 = length-take-le (length queue - 1) queue few in
    let nothing : drop (length queue - 1) (front_of queue) ≡ [] = drop_of_length-le (front_of queue) (omega (arith, long)) in
    record {
      long = omega (arith, long, some);
      within = omega (arith, long);
      start = sym (take-take (length queue - 1) (length queue - 1) queue (omega arith));
      end = drop_of_length-le queue (omega (arith, some)) ∙ sym nothing;
      others = subst (AllByRecursion (IsBehind standing)) (sym nothing) tt;
    }

-- what stands at a place of the start
same_at : (front queue : List Standing) (place at : ℕ) (d : Standing) → take place queue ≡ take place front → at < place → get_or queue at d ≡ get_or front at d
same_at front queue place at d start before = sym (get_or-take place queue at d before) ∙ (ap (λ xs. get_or xs at d) start ∙ get_or-take place front at d before)

one_more : (standing : Standing) (front queue : List Standing) (place : ℕ) (one d : Standing) → IsShifted standing front queue (place + 1) → one ≡ get_or queue place d
    → IsBehind standing one → IsShifted standing front (set queue (place + 1) one) place
one_more standing front queue place one d is read before =
    let there : one ≡ get_or front place d = read ∙ same_at front queue (place + 1) place d is.start (omega arith) in
    let next : suc place ≡ place + 1 = omega arith in
    let cut : drop place front ≡ one ∷ drop (place + 1) front = drop-cons front place d (omega (arith, is.within)) ∙ (λ i. sym there i ∷ drop (next i) front) in
    record {
      long = length-set queue (place + 1) one ∙ is.long;
      within = omega (arith, is.within);
      start = take-set-le place queue (place + 1) one (omega arith)
          ∙ (sym (take-take place (place + 1) queue (omega arith)) ∙ (ap (take place) is.start ∙ take-take place (place + 1) front (omega arith)));
      end = drop-set queue (place + 1) one (omega (arith, is.within, is.long)) ∙ (ap (λ xs. one ∷ xs) is.end ∙ sym cut);
      others = subst (AllByRecursion (IsBehind standing)) (sym cut) (before, is.others);
    }

pub shifted_more : (standing : Standing) (front queue : List Standing) (place last : ℕ) (one d : Standing) → last + 1 ≡ place → IsShifted standing front queue place → one ≡ get_or queue last d
    → IsBehind standing one → IsShifted standing front (set queue place one) last
shifted_more standing front queue place last one d next is read before =
    subst (λ p. IsShifted standing front (set queue p one) last) next (one_more standing front queue last one d (subst (IsShifted standing front queue) (sym next) is) read before)

pub shifted_entered : (standing : Standing) (front queue : List Standing) (place : ℕ) (d : Standing) → Ordered IsBehind front → IsShifted standing front queue place
    → (0 < place → stands_before (get_or queue (place - 1) d) standing ≡ false) → HasEntered standing front (set queue place standing)
shifted_entered standing front queue place d up is late =
    let next : suc place ≡ place + 1 = omega arith in
    record {
      place = place;
      is = record {
        within = is.within;
        behind = none_before standing front place d up is.within
            (λ some. subst (λ one. stands_before one standing ≡ false) (same_at front queue place (place - 1) d is.start (omega (arith, some))) (late some));
        others = is.others;
      };
      entered = set_split queue place standing (omega (arith, is.within, is.long)) ∙ (λ i. is.start i ++ standing ∷ (ap (λ p. drop p queue) next ∙ is.end) i);
    }
