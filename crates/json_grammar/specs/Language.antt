-- Runs of bytes, and how ABNF (RFC 5234) puts rules together.
use Rattle.std.specs.Prelude.{◌≡◌, ◌⊎◌, List, [], ◌∷◌, ◌++◌, ℕ, zero, suc, ◌≤◌}

-- which runs of bytes a rule allows
abbrev pub Language : Type 1
Language = List ℕ → Type 0

-- "%x2C": this byte
abbrev pub byte : ℕ → Language
byte x word = word ≡ x ∷ []

-- "%x31-39": one byte from the first to the last
pub record Range (first last : ℕ) (word : List ℕ) : Type 0 where
  pub value : ℕ
  pub whole : word ≡ value ∷ []
  pub least : first ≤ value
  pub most : value ≤ last

abbrev pub range : ℕ → ℕ → Language
range first last word = Range first last word

-- "%x66.61.6c.73.65": these bytes
abbrev pub spelled : List ℕ → Language
spelled bytes word = word ≡ bytes

-- the empty run
abbrev pub nothing : Language
nothing word = word ≡ []

-- one rule behind another
pub record Then (one two : Language) (word : List ℕ) : Type 0 where
  pub front : List ℕ
  pub rest : List ℕ
  pub whole : word ≡ front ++ rest
  pub first : one front
  pub second : two rest

infixr 20 ◌then◌
abbrev pub ◌then◌ : Language → Language → Language
◌then◌ one two word = Then one two word

infixr 10 ◌or◌
-- "/": one rule or another
abbrev pub ◌or◌ : Language → Language → Language
◌or◌ one two word = one word ⊎ two word

-- "[ .. ]": a rule or nothing
abbrev pub perhaps : Language → Language
perhaps one = nothing or one

-- "4( .. )": a rule so many times
abbrev pub times : ℕ → Language → Language
times zero one = nothing
times (suc n) one = one then times n one

-- "*( .. )": a rule any number of times
pub record Many (one : Language) (word : List ℕ) : Type 0 where
  pub count : ℕ
  pub all : times count one word

abbrev pub many : Language → Language
many one word = Many one word

-- "1*( .. )": a rule once or more often
abbrev pub some : Language → Language
some one = one then many one
