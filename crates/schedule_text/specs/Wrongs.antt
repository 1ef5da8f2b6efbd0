-- What is said of a line that spells no step, and what that means.
use Rattle.std.specs.Prelude.{◌≡◌, ℕ, zero, suc, ◌+◌, ◌-◌, ◌<◌, true, false, List, [], ◌∷◌, ◌++◌, length, take, drop, slice_index, slice_get, codes, decimal, Bool, ◌||◌, nat_lt, Option, Some, None, Contains}
use Rattle.std.specs.List.{list_any}
use Rattle.schedule_text.specs.declared.kind.Kind.{Kind}
use Rattle.schedule_text.specs.declared.kind.Shape.{Shape}
use Rattle.schedule_text.specs.declared.wrong.Wrong.{Wrong}
use Rattle.schedule_text.specs.declared.wrong.Wrong.TheVariants.{Empty, Mark, Return, Strange, SpaceInFront, SpaceBehind, TwoSpaces, Name, Word, Range, Missing, Extra, Unclear}
use Rattle.schedule_text.specs.Kinds.{is_kind, is_number, kinds, shape_of, tagged, noun, form}
use Rattle.schedule_text.specs.Reading.{first_word, after_word, AreDecimal}

-- no printable character of ASCII
abbrev pub is_strange : ℕ → Bool
is_strange b = nat_lt b 32 || nat_lt 126 b

-- UTF-8's byte order mark
abbrev pub mark : List ℕ
mark = 239 ∷ 187 ∷ 191 ∷ []

pub record HasTwoSpaces (line : List ℕ) : Type 0 where
  pub place : ℕ
  pub first : slice_index line place ≡ 32
  pub second : slice_index line (place + 1) ≡ 32

-- ---- words behind the name

-- what stands behind so many words, from the space in front of the next one on
abbrev pub behind : ℕ → List ℕ → List ℕ
behind zero rest = rest
behind (suc n) rest = after_word (drop 1 (behind n rest))

-- the word behind so many
abbrev pub nth_word : ℕ → List ℕ → List ℕ
nth_word n rest = first_word (drop 1 (behind n rest))

-- what is said of these words, which are to be of that shape; places are counted from 0
abbrev pub MeansBehind : Wrong → Shape → List ℕ → Type 0
MeansBehind (Word n kind) shape rest = (slice_get (kinds shape) n ≡ Some kind) × (is_kind kind (nth_word n rest) ≡ false)
MeansBehind (Range n kind) shape rest = (slice_get (kinds shape) n ≡ Some kind) × (is_kind kind (nth_word n rest) ≡ false) × (is_number kind ≡ true) × AreDecimal (nth_word n rest)
MeansBehind (Missing n kind) shape rest = (slice_get (kinds shape) n ≡ Some kind) × (behind n rest ≡ [])
MeansBehind (Extra n) shape rest = (slice_get (kinds shape) n ≡ None) × (0 < length (behind n rest))
MeansBehind Unclear shape rest = Unit {0}
MeansBehind _ shape rest = ⊥

-- the same behind a name
pub record MeansWords (wrong : Wrong) (line : List ℕ) : Type 0 where
  pub shape : Shape
  pub named : shape_of (first_word line) ≡ Some shape
  pub words : MeansBehind wrong (tagged shape (nth_word 0 (after_word line))) (after_word line)

-- ---- lines

abbrev pub Means : Wrong → List ℕ → Type 0
Means Empty line = line ≡ []
Means Mark line = take 3 line ≡ mark
Means Return line = Contains line 13
Means Strange line = list_any is_strange line ≡ true
Means SpaceInFront line = slice_index line 0 ≡ 32
Means SpaceBehind line = slice_index line (length line - 1) ≡ 32
Means TwoSpaces line = HasTwoSpaces line
Means Name line = shape_of (first_word line) ≡ None
Means (Word n kind) line = MeansWords (Word n kind) line
Means (Range n kind) line = MeansWords (Range n kind) line
Means (Missing n kind) line = MeansWords (Missing n kind) line
Means (Extra n) line = MeansWords (Extra n) line
Means Unclear line = Unit {0}

-- ---- texts

-- the name is word 1
abbrev pub place_text : ℕ → List ℕ
place_text n = codes "word " ++ decimal (n + 2)

abbrev pub the_text : ℕ → Kind → List ℕ
the_text n kind = place_text n ++ (codes ", the " ++ (noun kind ++ (codes " (" ++ (form kind ++ codes ")"))))

abbrev pub wrong_text : Wrong → List ℕ
wrong_text Empty = codes "it is empty"
wrong_text Mark = codes "a byte order mark stands in front"
wrong_text Return = codes "it has a CR; LF alone ends a line"
wrong_text Strange = codes "it has a byte that is no printable ASCII"
wrong_text SpaceInFront = codes "a space stands in front"
wrong_text SpaceBehind = codes "a space stands behind"
wrong_text TwoSpaces = codes "two spaces stand side by side"
wrong_text Name = codes "word 1 names no kind of step"
wrong_text (Word n kind) = place_text n ++ (codes " is no " ++ (noun kind ++ (codes ": " ++ form kind)))
wrong_text (Range n kind) = the_text n kind ++ codes ", is out of range"
wrong_text (Missing n kind) = the_text n kind ++ codes ", is missing"
wrong_text (Extra n) = place_text n ++ codes " is one too many"
wrong_text Unclear = codes "it is outside the grammar"
