-- Where a payload stops being JSON: "the first byte at which no continuation is allowed, or the length if it stops early; 26 gives the opening byte"
-- (paper 02, ticket 2). Stated by the grammar alone.
use Rattle.std.specs.Prelude.{◌≡◌, List, ◌++◌, ℕ, suc, ◌<◌, ◌≤◌, length, take}
use Rattle.json_grammar.specs.Json.{payload_to, most_deep}

-- these bytes begin some good payload, at most so deep
pub record Begins (depth : ℕ) (front : List ℕ) : Type 0 where
  pub rest : List ℕ
  pub good : payload_to depth (front ++ rest)

-- a no at a place: what stands in front of it begins a good payload; with the byte at it, none of whatever depth; and at the end the payload is none yet
pub record NoAt (payload : List ℕ) (place : ℕ) : Type 0 where
  pub within : place ≤ length payload
  pub begun : Begins most_deep (take place payload)
  pub wrong : place < length payload → (depth : ℕ) → Begins depth (take (suc place) payload) → ⊥
  pub early : place ≡ length payload → payload_to most_deep payload → ⊥

-- 26 at a place: with the byte at it, some good payload begins that is a level deeper than the most, and none that is not
pub record DeepAt (payload : List ℕ) (place : ℕ) : Type 0 where
  pub within : place < length payload
  pub begun : Begins most_deep (take place payload)
  pub deeper : Begins (suc most_deep) (take (suc place) payload)
  pub too_deep : Begins most_deep (take (suc place) payload) → ⊥
