-- The service that a topic names, and the record that registers it.
use Rattle.std.specs.Prelude.{ℕ, Option, Bool, cond, ◌&&◌, List, [], ◌∷◌, eqb, leb, length}
use Rattle.table_records.specs.Bytes.{same_bytes}
use Rattle.table_records.specs.Search.{first_of}
use Rattle.table_services.specs.Services.{services_in, service_at, rank_in, name_length, name_in}

-- "Its service is all before the first period, or all of it if there is none."
unfoldable pub service_of : List ℕ → List ℕ
service_of [] = []
service_of (x ∷ xs) = cond (eqb x 46) [] (x ∷ service_of xs)

-- the record registers the service at the rank: the name is the whole service, never a part of it, and "An empty service, as in ".get", matches
-- nothing"
unfoldable pub registers : List ℕ → ℕ → List ℕ → Bool
registers row rank service =
    leb 1 (length service) && (eqb (rank_in row) rank && (eqb (name_length row) (length service) && same_bytes (name_in row) service))

-- the number of the record that registers the service at the rank, counted from 0, or none
unfoldable pub registered_as : List ℕ → ℕ → List ℕ → Option ℕ
registered_as services rank service = first_of (λ i. registers (service_at services i) rank service) (services_in services)
