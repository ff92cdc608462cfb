-- The table of services. "Services: at most 1,024 records of 32 bytes: rank (4), name length 1 to 27 (1), name with neither zero nor period, zero
-- padding. Rank within the tree; no rank and name twice. No records at all is valid."
use Rattle.std.specs.Prelude.{ℕ, ◌+◌, ◌*◌, ◌/◌, Bool, true, ◌&&◌, not, List, [], ◌∷◌, eqb, leb, ltb, length, get_or, take, drop}
use Rattle.bytes_number.specs.Number.{number}
use Rattle.refusal.specs.declared.Refusal.TheVariants.{TreeWrong, ServicesWrong}
use Rattle.refusal.specs.Answer.{Answer, answered, refuse_if}
use Rattle.table_records.specs.Below.{all_below, none_twice}
use Rattle.table_records.specs.Bytes.{same_bytes}
use Rattle.table_records.specs.Records.{most_records, record_at}
use Rattle.table_tree.specs.Tree.{ranks_in}
use Rattle.table_tree.specs.Depths.{tree_good}

-- "records of 32 bytes"
abbrev pub service_width : ℕ
service_width = 32

unfoldable pub services_in : List ℕ → ℕ
services_in services = length services / service_width

abbrev pub service_at : List ℕ → ℕ → List ℕ
service_at services i = record_at service_width services i

-- ---- one record: "rank (4), name length 1 to 27 (1), name .., zero padding"

-- where the name begins, behind the rank and the name's length
abbrev pub name_start : ℕ
name_start = 5

-- "name length 1 to 27"
abbrev pub longest_name : ℕ
longest_name = 27

abbrev pub rank_in : List ℕ → ℕ
rank_in row = number row

abbrev pub name_length : List ℕ → ℕ
name_length row = get_or row 4 0

abbrev pub name_in : List ℕ → List ℕ
name_in row = take (name_length row) (drop name_start row)

abbrev pub padding_in : List ℕ → List ℕ
padding_in row = drop (name_start + name_length row) row

-- "neither zero nor period"
unfoldable pub is_name : List ℕ → Bool
is_name [] = true
is_name (x ∷ xs) = not (eqb x 0) && (not (eqb x 46) && is_name xs)

-- "zero padding"
unfoldable pub is_padding : List ℕ → Bool
is_padding [] = true
is_padding (x ∷ xs) = eqb x 0 && is_padding xs

-- a record of the form, in a tree of so many ranks
unfoldable pub service_good : ℕ → List ℕ → Bool
service_good ranks row =
    ltb (rank_in row) ranks && (leb 1 (name_length row) && (leb (name_length row) longest_name && (is_name (name_in row) && is_padding (padding_in row))))

-- ---- the table

-- the same rank and name
unfoldable pub same_service : List ℕ → List ℕ → Bool
same_service a b = eqb (rank_in a) (rank_in b) && same_bytes (name_in a) (name_in b)

-- 15: the records are whole and few, each of the form, and no rank and name is there twice
unfoldable pub services_good : List ℕ → List ℕ → Bool
services_good tree services =
    eqb (length services) (services_in services * service_width)
    && (leb (services_in services) most_records
    && (all_below (services_in services) (λ i. service_good (ranks_in tree) (service_at services i))
    && none_twice (λ i j. same_service (service_at services i) (service_at services j)) (services_in services)))

-- "Service check: 14, 15"; where it passes, how many records there are
unfoldable pub services_check : List ℕ → List ℕ → Answer ℕ
services_check tree services = refuse_if (not (tree_good tree)) TreeWrong (refuse_if (not (services_good tree services)) ServicesWrong (answered (services_in services)))
