-- A hand begins the next row.
use Rattle.std.proofs.Common.{◌≡◌, ◌≢◌, ℕ, suc, List, [], ◌∷◌, length, refl, ◌∙◌, arith}
use Rattle.std.proofs.lemmas.Bool.{eq-eqb, ne_eqb}
use Rattle.k42_kinds.specs.declared.entry.Entry.{Entry}
use Rattle.k42_stamp.specs.Layouts.{Layouts}
use Rattle.k42_stamp.specs.Parts.{those_at}
use Rattle.k42_stamp.specs.Chains.{Chain, first_of}
use Rattle.k42_stamp.specs.Fits.{Fits}
use Rattle.k42_stamp.specs.Draws.{IsLater}
use Rattle.k42_stamp.specs.Hands.{IsHand, handed, begun_at}
use Rattle.k42_stamp.specs.Laws.{AreLaws}
use Rattle.k42_stamp.proofs.Needed.{entries_all, first_above, past_left-same}

pub begun_here : {O R : Type 0} (e : Entry O R) (number : ℕ) (histories : ℕ → ℕ → List (Entry O R)) (cell : ℕ) → begun_at e number histories number cell ≡ e ∷ []
begun_here e number histories cell = rw (eq-eqb number number refl) refl

pub begun_else : {O R : Type 0} (e : Entry O R) (number : ℕ) (histories : ℕ → ℕ → List (Entry O R)) (row cell : ℕ) → row ≢ number → begun_at e number histories row cell ≡ histories row cell
begun_else e number histories row cell other = rw (ne_eqb row number other) refl

pub hand_begins : {S L P O R : Type 0} (F : Layouts S L P O R) (declared : L) (o : ℕ) (histories : ℕ → ℕ → List (Entry O R)) (chain : Chain L P O R) (layout : L) (e : Entry O R)
    → AreLaws F → Fits F declared o histories chain → IsHand F declared o histories chain layout e
    → Fits F declared o (begun_at e (suc (length chain.past)) histories) (handed F chain layout e)
hand_begins F declared o histories chain layout e laws fits hand =
    let number = length chain.past in
    record {
      declared_live = fits.declared_live;
      past = (
        record {
          row = fits.row;
          live = hand.live;
          unspent = hand.unspent;
          last = entries_all F laws chain.row.layout fits.row.known (IsLater e) o number (histories number) (first_of chain.past) chain.row.entries fits.row.own fits.left hand.later;
          higher = first_above chain.past (those_at F chain.row.layout 0 chain.row.entries) e (rw (fits.left 0 laws.some) at (hand.later 0 laws.some));
        },
        fits.past,
      );
      row = record {
        kind = hand.kind;
        known = hand.known;
        begun = hand.told;
        started = refl;
        own = tt;
        ordered = tt;
        above = tt;
        replied = tt;
      };
      past_left = (
        (λ cell lt. begun_else e (suc number) histories number cell (λ same. absurd (omega arith)) ∙ fits.left cell lt),
        past_left-same F chain.past histories (begun_at e (suc number) histories) (λ row cell lt. begun_else e (suc number) histories row cell (λ same. absurd (omega arith))) fits.past_left,
      );
      left = λ cell lt. begun_here e (suc number) histories cell;
    }
