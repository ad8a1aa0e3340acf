-- Operations and replies as a log keeps them, computed: accepted and refused.
use Rattle.std.proofs.Common.{◌≡◌, ℕ, List, [], ◌∷◌, refl, arith}
use Rattle.std.specs.Prelude.{replicate}
use Rattle.k42_kinds.specs.declared.operation.Op.TheVariants.{Write, Read}
use Rattle.k42_kinds.specs.declared.operation.Reply.TheVariants.{Number, Text}
use Rattle.k42_kinds.specs.Packing.{IsReplyLabel, labelled}
use Rattle.k42_kinds.specs.PackedCalls.{FitsOp, FitsReply, op_label, op_size, op_unpacked, reply_label, reply_size, sized}

-- `write 1000 ab`

abbrev ab : List ℕ
ab = 97 ∷ 98 ∷ []

write_label : op_label (Write 1_000 ab) ≡ labelled 7 132_072
write_label = refl

write_size : op_size (labelled 7 132_072) ≡ sized 0 2
write_size = refl

write_fits : FitsOp (labelled 7 132_072) [] ab
write_fits = record { sized = record { words = refl; bytes = refl }; spelled = refl }

write_back : op_unpacked (labelled 7 132_072) [] ab ≡ Write 1_000 ab
write_back = refl

-- the same number under the tag of `read` is another operation, behind which no bytes fit

no_write : ¬ (op_unpacked (labelled 8 132_072) [] ab ≡ Write 1_000 ab)
no_write same = let other : Read 1_000 ≡ Write 1_000 ab = same in cc other

no_bytes : ¬ FitsOp (labelled 8 132_072) [] ab
no_bytes fits = omega (arith, fits.sized.bytes)

-- an empty name fits behind no `find`, nor does one that begins with a digit

no_name : ¬ FitsOp (labelled 4 0) [] []
no_name fits = let spelled = fits.spelled in cc spelled

no_letter : ¬ FitsOp (labelled 4 2) [] (49 ∷ 97 ∷ [])
no_letter fits = let spelled = fits.spelled in cc spelled

-- the longest text

abbrev long : List ℕ
long = replicate 32 97

text_label : reply_label (Text long) ≡ labelled 38 0
text_label = refl

text_fits : FitsReply (labelled 38 0) [] long
text_fits = record { sized = record { words = refl; bytes = refl }; spelled = refl }

-- the tag below it has one byte less

shorter : reply_size (labelled 37 0) ≡ sized 0 31
shorter = refl

too_long : ¬ FitsReply (labelled 37 0) [] long
too_long fits = omega (arith, fits.sized.bytes)

-- a text with a blank fits nowhere
no_blank : ¬ FitsReply (labelled 8 0) [] (97 ∷ 32 ∷ [])
no_blank fits = let spelled = fits.spelled in cc spelled

-- a number is one word, and has a low label; 240 is the first tag that is no reply's

number_label : IsReplyLabel (reply_label (Number 5))
number_label = record { tag = omega arith; small = refl }

number_fits : FitsReply (labelled 3 0) (5 ∷ []) []
number_fits = record { sized = record { words = refl; bytes = refl }; spelled = refl }

no_word : ¬ FitsReply (labelled 3 0) [] []
no_word fits = omega (arith, fits.sized.words)

too_high : ¬ IsReplyLabel (labelled 240 0)
too_high low = omega (arith, low.tag)

not_plain : ¬ IsReplyLabel (labelled 3 1)
not_plain low = omega (arith, low.small)
