-- The head of a picture: how large it is, how it is coloured, and the verdict.
use Rattle.std.specs.Prelude.{ℕ, List, ◌++◌, codes}
use Rattle.record_picture.specs.Measures.{width_of, height_of}
use Rattle.record_picture.specs.Pieces.{numbered}
use Rattle.record_picture.specs.Style.{style}
use Rattle.record_picture.specs.Verdicts.{verdict_text}
use Rattle.record_picture.specs.declared.verdict.Verdict.{Verdict}

-- how large it is
unfoldable pub opening : ℕ → ℕ → List ℕ
opening columns lanes =
    numbered (codes "<svg xmlns='http://www.w3.org/2000/svg' width='") (width_of columns)
    ++ numbered (codes "' height='") (height_of lanes)
    ++ codes "'>\n"

-- the verdict on a record of so many entries
unfoldable pub verdict_line : Verdict → ℕ → List ℕ
verdict_line verdict entries =
    codes "<rect width='100%' height='100%' fill='#fff'/>\n<text class='v' x='8' y='20'>"
    ++ verdict_text verdict entries
    ++ codes "</text>\n"

unfoldable pub head : Verdict → ℕ → ℕ → ℕ → List ℕ
head verdict entries columns lanes =
    opening columns lanes ++ style ++ verdict_line verdict entries
