-- Chains of records with the same hash: how two equal records are found in time linear in the records. No promise of a public call speaks of them.
use Rattle.std.specs.Prelude.{◌≡◌, ℕ, zero, suc, ◌+◌, ◌*◌, ◌-◌, ◌/◌, ◌%◌, ◌<◌, cond, List, [], ◌∷◌, eqb, ltb, length, get_or}
use Rattle.bytes_number.specs.Number.{number}
use Rattle.table_records.specs.Records.{record_at}

-- four bytes as a number, the first of them the lightest
abbrev pub light_first : ℕ → ℕ → ℕ → ℕ → ℕ
light_first a b c d = number (d ∷ c ∷ b ∷ a ∷ [])

-- eight bytes more, from `at` on: the two factors are odd and have no pattern, and what comes out has 32 bits
unfoldable pub stirred : ℕ → List ℕ → ℕ → ℕ
stirred h xs at =
    (h * 2135587861
    + light_first (get_or xs at 0) (get_or xs (at + 1) 0) (get_or xs (at + 2) 0) (get_or xs (at + 3) 0) * 1540483477
    + light_first (get_or xs (at + 4) 0) (get_or xs (at + 5) 0) (get_or xs (at + 6) 0) (get_or xs (at + 7) 0)) % 4294967296

-- the first k blocks of eight bytes
unfoldable pub blocks : List ℕ → ℕ → ℕ
blocks xs zero = 0
blocks xs (suc k) = stirred (blocks xs k) xs (k * 8)

-- all whole blocks, and the last eight bytes once more, so that there is no rest; and 0 for fewer than eight bytes
unfoldable pub mix_of : List ℕ → ℕ
mix_of xs = cond (ltb (length xs) 8) 0 (stirred (blocks xs (length xs / 8)) xs (length xs - 8))

-- the chain that bytes belong to, of 4,096: the highest bits, on which all of the bytes bear
unfoldable pub hash_of : List ℕ → ℕ
hash_of xs = mix_of xs * 1540483477 % 4294967296 / 1048576

abbrev pub hash_at : ℕ → List ℕ → ℕ → ℕ
hash_at width table i = hash_of (record_at width table i)

-- the last index below i with the hash h, plus 1; 0 where there is none
unfoldable pub last_below : (ℕ → ℕ) → ℕ → ℕ → ℕ
last_below hash zero h = 0
last_below hash (suc i) h = cond (eqb (hash i) h) (suc i) (last_below hash i h)

-- for each index below i, `next` holds the last index below it with the same hash, plus 1
abbrev pub ChainLinked : (ℕ → ℕ) → List ℕ → ℕ → Type 0
ChainLinked hash next i = (j : ℕ) → j < i → get_or next j 0 ≡ last_below hash j (hash j)
