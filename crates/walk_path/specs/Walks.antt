-- The walks of paper 01's last table, on its example floor, by the path alone.
use Rattle.std.specs.Prelude.{◌≡◌, true, cond, ℕ, ◌-◌, List, [], ◌∷◌, ◌++◌, map, length, replicate}
use Prim.Native.Char.{code}
use Prim.Native.String.{String, [] as end-of-text, ◌∷◌ as ◌then◌}
use Rattle.bytes_number.specs.Number.{four, row_bytes}
use Rattle.frame_message.specs.declared.Header.{Header}
use Rattle.frame_message.specs.Header.{no_response}
use Rattle.frame_message.specs.Reading.{final}
use Rattle.table_tree.specs.Depths.{tree_good}
use Rattle.table_services.specs.Services.{longest_name, services_good}
use Rattle.walk_path.specs.Path.{End, delivers, fails, path_of, links_of}

-- a text's characters, which are ASCII here, as bytes
abbrev pub bytes : String → List ℕ
bytes end-of-text = []
bytes (c then rest) = code c ∷ bytes rest

-- ---- the floor: "Parents none,0,0,1,1,2,2. Services: bench at 1 and 4, log at 0."

abbrev pub none : ℕ
none = 4294967295

-- "4 bytes a rank, the parent"
abbrev pub floor_tree : List ℕ
floor_tree = row_bytes (none ∷ 0 ∷ 0 ∷ 1 ∷ 1 ∷ 2 ∷ 2 ∷ [])

-- "rank (4), name length 1 to 27 (1), name .., zero padding"
abbrev pub service : ℕ → List ℕ → List ℕ
service rank name = four rank ++ (length name ∷ []) ++ name ++ replicate (longest_name - length name) 0

abbrev pub floor_services : List ℕ
floor_services = service 1 (bytes "bench") ++ service 4 (bytes "bench") ++ service 0 (bytes "log")

-- ---- a row of the table

-- "delivered", with the number of the record (bench at 1 is 0, bench at 4 is 1, log at 0 is 2); an error; "silenced"
pub data Told : Type 0 where
  delivered : ℕ → Told
  failed : ℕ → Told
  silenced : ℕ → Told

-- the result of a path's end: an error is silenced where noresponse is set
abbrev pub told_of : ℕ → End → Told
told_of flags (delivers number) = delivered number
told_of flags (fails errnum) = cond (no_response flags) (silenced errnum) (failed errnum)

-- what enters, and how and where it ends
pub data Row : Type 0 where
  walk : (entry nodeid flags : ℕ) (topic : String) (told : Told) (rank links : ℕ) → Row

-- a request's flags, 01 and 08; with 10 upstream; with 04 noresponse
abbrev pub plain : ℕ
plain = 0x09

abbrev pub upstream : ℕ
upstream = 0x19

abbrev pub noresponse : ℕ
noresponse = 0x0D

-- "any"
abbrev pub any : ℕ
any = 4294967295

-- W1 to W11
abbrev pub table : List Row
table =
    walk 3 any plain "bench.run" (delivered 0) 1 1
    ∷ walk 4 any plain "bench.run" (delivered 1) 4 0
    ∷ walk 5 any plain "bench.run" (failed 38) 0 2
    ∷ walk 5 any plain "log" (delivered 2) 0 2
    ∷ walk 6 4 plain "bench.run" (delivered 1) 4 4
    ∷ walk 3 5 plain "bench.run" (failed 38) 5 4
    ∷ walk 3 7 plain "bench.run" (failed 113) 3 0
    ∷ walk 4 4 upstream "bench.run" (delivered 0) 1 1
    ∷ walk 0 0 upstream "log.put" (failed 38) 0 0
    ∷ walk 3 any plain "benchmark.run" (failed 38) 0 2
    ∷ walk 5 any noresponse "bench.run" (silenced 38) 0 2
    ∷ []

-- ---- the claim

-- the header of such a request: its user, roles and matchtag are nothing to the path
abbrev pub header : ℕ → ℕ → Header
header nodeid flags = record { kind = 1; flags = flags; userid = none; rolemask = 0; first = nodeid; second = 1 }

-- a row with its end, rank and links by the path of its request
abbrev pub by_path : Row → Row
by_path (walk entry nodeid flags topic told rank links) =
    let path = path_of floor_tree floor_services entry (header nodeid flags) (bytes topic) in
    walk entry nodeid flags topic (told_of flags path.end) (final 0 path.brokers) (links_of path)

-- the floor's tables are right, and so is every row
pub record WalksAreRight : Type 0 where
  pub tree : tree_good floor_tree ≡ true
  pub services : services_good floor_tree floor_services ≡ true
  pub rows : map by_path table ≡ table
