-- A legal history is legal so far, and so is one in which the swap for whose sake another was refused is still to come.
use Rattle.std.proofs.Common.{◌≡◌, ◌+◌, List, [], ◌∷◌, length, Option, Some, refl, arith}
use Rattle.k42_kinds.specs.declared.operation.KindName.{KindName}
use Rattle.k42_kinds.specs.declared.operation.KindName.TheVariants as kinds
use Rattle.k42_kinds.specs.declared.operation.Op.{Op}
use Rattle.k42_kinds.specs.declared.operation.Op.TheVariants.{Add, Get}
use Rattle.k42_kinds.specs.declared.operation.Reply.{Reply}
use Rattle.k42_kinds.specs.declared.operation.Reply.TheVariants as replies
use Rattle.k42_kinds.specs.declared.entry.Act.{Act}
use Rattle.k42_kinds.specs.declared.entry.Act.TheVariants.{Call, Swap}
use Rattle.k42_kinds.specs.declared.entry.To.TheVariants.{Layout}
use Rattle.k42_kinds.specs.declared.entry.Answer.{Answer}
use Rattle.k42_kinds.specs.declared.entry.Answer.TheVariants.{Replied, Swapped, Busy, Spent, Gone, Abandoned}
use Rattle.k42_kinds.specs.declared.entry.Entry.{Entry}
use Rattle.k42_kinds.specs.OneThread.{OneThread}
use Rattle.k42_kinds.specs.Watched.{watched_object}
use Rattle.k42_kinds.specs.Legal.{IsLegalAnswerOf, IsLegalActOf, IsLegalHistoryOf, IsAnswerSoFar, IsActSoFar, IsSoFarAmongObjects, IsLegalSoFar}
use Rattle.k42_kinds.proofs.Splits.{each_split}
use Rattle.k42_kinds.proofs.ExampleLines.{line}

module _ {S O R : Type 0} (object : OneThread S O R) (before : List (Entry O R)) (entry : Entry O R) (after : List (Entry O R)) where
  answer_so_far : (answer : Answer R) → IsLegalAnswerOf object before entry after answer → IsAnswerSoFar object before entry answer
  answer_so_far (Swapped number) legal = legal
  answer_so_far Spent legal = legal
  answer_so_far Gone legal = legal
  answer_so_far (Busy number) legal = tt
  answer_so_far (Abandoned number) legal = tt
  answer_so_far (Replied reply) legal = legal

  pub act_so_far : (act : Act O) → IsLegalActOf object before entry after act → IsActSoFar object before entry act
  act_so_far (Call op) legal = legal
  act_so_far (Swap to) legal = answer_so_far entry.answer legal

pub legal_so_far : {K S O R : Type 0} (object_of : K → OneThread S O R) (declarations : List K) (history : List (Entry O R)) → IsLegalHistoryOf object_of declarations history → IsLegalSoFar object_of declarations history
legal_so_far object_of declarations history legal = record {
  numbered = legal.numbered;
  legal = λ before entry after split.
      let was = legal.legal before entry after split in
      record {
        kind = was.kind;
        declared = was.declared;
        legal = act_so_far (object_of was.kind) before entry after entry.act was.legal;
      };
}

-- the swap that refuses stands nowhere yet
abbrev refused : List (Entry Op Reply)
refused = line 1 0 0 0 (Call (Add 5)) (Replied replies.Done) ∷ line 2 0 1 0 (Swap (Layout 1)) (Busy 1) ∷ []

refused_so_far : IsLegalSoFar watched_object (kinds.Counter ∷ []) refused
refused_so_far = record {
  numbered = each_split (λ before entry after. entry.stamp ≡ length before + 1) [] refused (search arith);
  legal = each_split (IsSoFarAmongObjects watched_object (kinds.Counter ∷ [])) [] refused (search arith);
}

-- a wrong reply is not legal so far
abbrev misread : Entry Op Reply
misread = line 1 0 0 0 (Call Get) (Replied (replies.Number 6))

wrong_call : (kind : KindName) → ◌≡◌ {A = Option KindName} (Some kinds.Counter) (Some kind) → IsActSoFar (watched_object kind) [] misread (Call Get) → ⊥
wrong_call kinds.Counter declared legal = grind arith
wrong_call kinds.Directory declared legal = cc declared
wrong_call kinds.Pages declared legal = cc declared

wrong_reply : IsLegalSoFar watched_object (kinds.Counter ∷ []) (misread ∷ []) → ⊥
wrong_reply history = let here = history.legal [] misread [] refl in wrong_call here.kind here.declared here.legal
