-- How lives, closing and histories of an object's two cells at a place go on.
use Rattle.std.proofs.Common.{◌≡◌, ℕ, ◌+◌, ◌-◌, ◌/◌, ◌<◌, Bool, true, false, not, cond, eqb, [], ◌∷◌, ◌++◌, length, refl, sym, ap, ◌∙◌, subst, arith}
use Rattle.std.proofs.lemmas.Bool.Decides.{nat_tests}
use Rattle.std.proofs.lemmas.List.{length-append}
use Rattle.k42_kinds.specs.declared.entry.Answer.TheVariants.{Swapped}
use Rattle.k42_kinds.specs.declared.entry.Entry.{Entry}
use Rattle.turn_core.specs.Plain.{Cell}
use Rattle.turn_core.specs.Events.{cell_told, cell_opened, cell_begun, cell_closed}
use Rattle.k42_joined.specs.Locks.{other_life, is_closed_in, IsOfLife, AreOfLives}

-- a cell of the life of another, closed as it
pub record IsSameLife {O R : Type 0} (x y : Cell O R) : Type 0 where
  pub life : y.life ≡ x.life
  pub closed : y.closed ≡ x.closed
  pub past : length y.past ≡ length x.past

pub same_life : {O R : Type 0} (x : Cell O R) → IsSameLife x x
same_life x = record { life = refl; closed = refl; past = refl }

of_life : {O R : Type 0} (i : ℕ) (handed : Bool) (life : ℕ) (x y : Cell O R) → IsSameLife x y → IsOfLife i handed life x → IsOfLife i handed life y
of_life i handed life x y same is = record {
  life = same.life ∙ is.life;
  closed = same.closed ∙ is.closed;
  past = same.past ∙ is.past;
}

pub lives_kept : {O R : Type 0} (i : ℕ) (handed : Bool) (x y x' y' : Cell O R) → IsSameLife x x' → IsSameLife y y' → y'.history ≡ y.history
    → AreOfLives i handed x y → AreOfLives i handed x' y'
lives_kept i handed x y x' y' same same' history are = record {
  present = of_life i handed i x x' same are.present;
  other = of_life i handed (other_life i handed) y y' same' are.other;
  next = λ life. let begins = are.next (sym same'.life ∙ life) in
      record {
        empty = λ not. history ∙ begins.empty not;
        begun = λ is. let one = begins.begun is in (one.0, history ∙ one.1, one.2);
      };
}

-- the next incarnation
pub lives_turned : {O R : Type 0} (i : ℕ) (x y : Cell O R) → AreOfLives i true x y → AreOfLives (i + 1) false y x
lives_turned i x y are =
    let own : other_life i true ≡ i + 1 = grind (arith, nat_tests) in
    let back : other_life (i + 1) false ≡ i = grind (arith, nat_tests) in
    let opened : is_closed_in i true (i + 1) ≡ is_closed_in (i + 1) false (i + 1) = grind (arith, nat_tests) in
    let closed : is_closed_in i true i ≡ is_closed_in (i + 1) false i = grind (arith, nat_tests) in
    record {
      present = record { life = are.other.life ∙ own; closed = are.other.closed ∙ ap (is_closed_in i true) own ∙ opened; past = are.other.past ∙ ap (λ n. n / 2) own };
      other = record {
        life = are.present.life ∙ sym back;
        closed = are.present.closed ∙ closed ∙ sym (ap (is_closed_in (i + 1) false) back);
        past = are.present.past ∙ ap (λ n. n / 2) (sym back);
      };
      next = λ life. let is = are.present.life in absurd (omega (arith, is, life));
    }

-- a cell before its hand: at first it is open and was not drawn at, and later it is closed in a former life
pub record IsWaiting {O R : Type 0} (i : ℕ) (y : Cell O R) (closed : Bool) : Type 0 where
  pub life : y.life + cond closed 2 0 ≡ i + 1
  pub closed_is : y.closed ≡ closed
  pub past : length y.past + cond closed 1 0 ≡ (i + 1) / 2
  pub history : closed ≡ false → y.history ≡ []

pub waiting : {O R : Type 0} (i : ℕ) (x y : Cell O R) → AreOfLives i false x y → IsWaiting i y (not (eqb i 0))
waiting i x y are = by_test (eqb i 0) refl where
  by_test : (b : Bool) → eqb i 0 ≡ b → IsWaiting i y (not b)
  by_test true e =
      let zero_is : i ≡ 0 = grind (arith, nat_tests, e) in
      let one : other_life i false ≡ i + 1 = grind (arith, nat_tests, e) in
      let opened : is_closed_in i false (i + 1) ≡ false = grind (arith, nat_tests) in
      let life : y.life ≡ i + 1 = are.other.life ∙ one in
      let past : length y.past ≡ (i + 1) / 2 = are.other.past ∙ ap (λ n. n / 2) one in
      record {
        life = omega (arith, life);
        closed_is = are.other.closed ∙ ap (is_closed_in i false) one ∙ opened;
        past = omega (arith, past);
        history = λ is. (are.next life).empty refl;
      }
  by_test false e =
      let more : 0 < i = grind (arith, nat_tests, e) in
      let less : other_life i false ≡ i - 1 = grind (arith, nat_tests, e) in
      let closed : is_closed_in i false (i - 1) ≡ true = grind (arith, nat_tests, more) in
      let life : y.life ≡ i - 1 = are.other.life ∙ less in
      let past : length y.past ≡ (i - 1) / 2 = are.other.past ∙ ap (λ n. n / 2) less in
      record {
        life = omega (arith, life, more);
        closed_is = are.other.closed ∙ ap (is_closed_in i false) less ∙ closed;
        past = omega (arith, past, more);
        history = λ is. absurd (cc);
      }

-- a cell whose next life was begun
pub record IsBegun {O R : Type 0} (i : ℕ) (e : Entry O R) (x : Cell O R) : Type 0 where
  pub life : x.life ≡ i + 1
  pub closed : x.closed ≡ false
  pub past : length x.past ≡ (i + 1) / 2
  pub history : x.history ≡ e ∷ []

begun_as : {O R : Type 0} (i : ℕ) (y : Cell O R) (e : Entry O R) (closed : Bool) → IsWaiting i y closed
    → IsBegun i e (cond closed (cell_told e (cell_opened y)) (cell_told e y))
begun_as i y e true is =
    let life = is.life in
    let past = is.past in
    let long = length-append y.past (y.history ∷ []) in
    record { life = omega (arith, life); closed = refl; past = omega (arith, past, long); history = refl }
begun_as i y e false is =
    let life = is.life in
    let past = is.past in
    record {
      life = omega (arith, life);
      closed = is.closed_is;
      past = omega (arith, past);
      history = ap (λ history. history ++ e ∷ []) (is.history refl);
    }

pub cell_begins : {O R : Type 0} (i : ℕ) (x y : Cell O R) (e : Entry O R) → AreOfLives i false x y → IsBegun i e (cell_begun e y)
cell_begins i x y e are =
    let is = waiting i x y are in
    subst (λ b. IsBegun i e (cond b (cell_told e (cell_opened y)) (cell_told e y))) (sym is.closed_is)
    (begun_as i y e (not (eqb i 0)) is)

-- the hand
pub lives_handed : {O R : Type 0} (i : ℕ) (x y : Cell O R) (e : Entry O R) → e.answer ≡ Swapped (i + 1) → AreOfLives i false x y
    → AreOfLives i true (cell_closed x) (cell_begun e y)
lives_handed i x y e answer are =
    let begun = cell_begins i x y e are in
    let own : other_life i true ≡ i + 1 = grind (arith, nat_tests) in
    let opened : is_closed_in i true (i + 1) ≡ false = grind (arith, nat_tests) in
    let shut : is_closed_in i true i ≡ true = grind (arith, nat_tests) in
    record {
      present = record { life = are.present.life; closed = sym shut; past = are.present.past };
      other = record {
        life = begun.life ∙ sym own;
        closed = begun.closed ∙ sym opened ∙ sym (ap (is_closed_in i true) own);
        past = begun.past ∙ ap (λ n. n / 2) (sym own);
      };
      next = λ life. record { empty = λ not. absurd (cc); begun = λ is. (e, begun.history, answer) };
    }
