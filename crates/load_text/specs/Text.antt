-- A text of two loads: three lines, the kind, the left load and the right load.
use Rattle.std.specs.Prelude.{◌≡◌, ℕ, ◌+◌, ◌-◌, ◌<◌, ◌≤◌, ◌⊎◌, List, [], ◌∷◌, length, take, vec_items, codes, slice_index_or}
use Rattle.load_text.specs.declared.faults.TextFault.{TextFault}
use Rattle.load_text.specs.declared.faults.TextFault.TheVariants.{TooLong, MissingLine, ExtraLine, UnknownKind, BadEntry, OutOfMemory}
use Rattle.load_text.specs.declared.reading.Kind.{Kind}
use Rattle.load_text.specs.declared.reading.Kind.TheVariants.{Points, Hands}
use Rattle.load_text.specs.declared.reading.LoadPair.{LoadPair}
use Rattle.load_text.specs.declared.reading.LoadPair.TheVariants.{Points as OfPoints, Hands as OfHands}
use Rattle.load_text.specs.Entries.{WritesPoints, WritesHand}
use Rattle.load_text.specs.Lines.{lines_of, words_of}

-- the words write the grades, one each, in order
abbrev pub Written : {G : Type 0} → (List ℕ → G → Type 0) → List (List ℕ) → List G → Type 0
Written writes [] [] = Unit {0}
Written writes [] (g ∷ gs) = ⊥
Written writes (w ∷ ws) [] = ⊥
Written writes (w ∷ ws) (g ∷ gs) = writes w g × Written writes ws gs

-- the k-th word, counted from 1, is the first that writes no grade
pub record BadEntryAt {G : Type 0} (writes : List ℕ → G → Type 0) (ws : List (List ℕ)) (k : ℕ) : Type 0 where
  pub first : 0 < k
  pub last : k ≤ length ws
  pub bad : (g : G) → writes (slice_index_or ws (k - 1) []) g → ⊥
  pub good : (gs : List G) × Written writes (take (k - 1) ws) gs

-- why a load is not read from the words of a line: an entry, with that line's number, or memory
abbrev pub LoadFault : {G : Type 0} → (List ℕ → G → Type 0) → List (List ℕ) → ℕ → TextFault → Type 0
LoadFault writes ws number TooLong = ⊥
LoadFault writes ws number (MissingLine line) = ⊥
LoadFault writes ws number ExtraLine = ⊥
LoadFault writes ws number UnknownKind = ⊥
LoadFault writes ws number (BadEntry line entry) = (line ≡ number) × BadEntryAt writes ws entry
LoadFault writes ws number OutOfMemory = Unit {0}

-- The text is at most 65,536 bytes long and has these three lines.
pub record ThreeLines (text kind left right : List ℕ) : Type 0 where
  pub short : length text ≤ 65536
  pub lines : lines_of text ≡ kind ∷ left ∷ right ∷ []

-- why a text is not three lines: too long, a first line that is missing, or more than three
abbrev pub LinesFault : List ℕ → TextFault → Type 0
LinesFault text TooLong = 65536 < length text
LinesFault text (MissingLine line) = (length text ≤ 65536) × (line ≤ 3) × (length (lines_of text) + 1 ≡ line)
LinesFault text ExtraLine = (length text ≤ 65536) × (3 < length (lines_of text))
LinesFault text UnknownKind = ⊥
LinesFault text (BadEntry line entry) = ⊥
LinesFault text OutOfMemory = ⊥

abbrev pub kind_word : Kind → List ℕ
kind_word Points = codes "points"
kind_word Hands = codes "hands"

-- the line names the kind, and holds nothing else
abbrev pub Names : List ℕ → Kind → Type 0
Names line kind = words_of line ≡ kind_word kind ∷ []

-- Both load lines are written in entries of a kind.
pub record BothWritten {G : Type 0} (writes : List ℕ → G → Type 0) (left_line right_line : List ℕ) (left right : List G) : Type 0 where
  pub left_is : Written writes (words_of left_line) left
  pub right_is : Written writes (words_of right_line) right

-- why two load lines are not: the first bad entry, of the second line of the text or else of the third; or memory
abbrev pub BothFault : {G : Type 0} → (List ℕ → G → Type 0) → List ℕ → List ℕ → TextFault → Type 0
BothFault writes left right TooLong = ⊥
BothFault writes left right (MissingLine line) = ⊥
BothFault writes left right ExtraLine = ⊥
BothFault writes left right UnknownKind = ⊥
BothFault {G} writes left right (BadEntry line entry) =
    ((line ≡ 2) × BadEntryAt writes (words_of left) entry)
    ⊎ ((line ≡ 3) × ((gs : List G) × Written writes (words_of left) gs) × BadEntryAt writes (words_of right) entry)
BothFault writes left right OutOfMemory = Unit {0}

-- A text of two loads of one kind: what it is read as.
pub record ReadAs {G : Type 0} (kind : Kind) (writes : List ℕ → G → Type 0) (text : List ℕ) (left right : List G) : Type 0 where
  pub kind_line : List ℕ
  pub left_line : List ℕ
  pub right_line : List ℕ
  pub three : ThreeLines text kind_line left_line right_line
  pub named : Names kind_line kind
  pub both : BothWritten writes left_line right_line left right

-- the kind is named, and a load line is at fault
pub record FaultIn {G : Type 0} (kind : Kind) (writes : List ℕ → G → Type 0) (text : List ℕ) (f : TextFault) : Type 0 where
  pub kind_line : List ℕ
  pub left_line : List ℕ
  pub right_line : List ℕ
  pub three : ThreeLines text kind_line left_line right_line
  pub named : Names kind_line kind
  pub fault : BothFault writes left_line right_line f

-- the first line names no kind
pub record Unnamed (text : List ℕ) : Type 0 where
  pub kind_line : List ℕ
  pub left_line : List ℕ
  pub right_line : List ℕ
  pub three : ThreeLines text kind_line left_line right_line
  pub unnamed : (k : Kind) → Names kind_line k → ⊥

-- why a text is refused
abbrev pub TextFaultOf : List ℕ → TextFault → Type 0
TextFaultOf text TooLong = LinesFault text TooLong
TextFaultOf text (MissingLine line) = LinesFault text (MissingLine line)
TextFaultOf text ExtraLine = LinesFault text ExtraLine
TextFaultOf text UnknownKind = Unnamed text
TextFaultOf text (BadEntry line entry) = FaultIn Points WritesPoints text (BadEntry line entry) ⊎ FaultIn Hands WritesHand text (BadEntry line entry)
TextFaultOf text OutOfMemory = Unit {0}

-- what a text is read as, in the kind that it names
abbrev pub TextOf : List ℕ → LoadPair → Type 0
TextOf text (OfPoints p) = ReadAs Points WritesPoints text (vec_items p.left) (vec_items p.right)
TextOf text (OfHands p) = ReadAs Hands WritesHand text (vec_items p.left) (vec_items p.right)
