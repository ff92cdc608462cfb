use Rattle.table_records.specs.Bytes.{same_bytes}
use Rattle.table_identities.specs.Identities.{same_identity}
use Rattle.table_identities.proofs.is_same.Goals as goal

pub returns : goal.returns
unfolding same_identity same_bytes
returns c = c.eq.ensures
