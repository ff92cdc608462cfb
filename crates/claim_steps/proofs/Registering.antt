-- The record that is found registers the service: the way from what is found to the rules' words.
use Rattle.std.specs.Prelude.{Some}
use mathlib.Core.Path.{◌≡◌}
use Prim.Native.Nat.{ℕ}
use Rattle.frame_message.specs.Message.{Message}
use Rattle.table_services_find.specs.Lookup.{service_of}
use Rattle.table_services_find.proofs.Lookup.{found_holds}
use Rattle.step_routing.specs.declared.Broker.{Broker}
use Rattle.step_routing.specs.Requests.{registered}
use Rattle.step_routing.specs.Routed.{Tables}
use Rattle.claim_steps.specs.Rules.{Registers}

pub registers : (t : Tables) (b : Broker) (m : Message) (number : ℕ) → registered t.services b.rank m.topic ≡ Some number → Registers t b m number
registers t b m number e =
    let holds = found_holds t.services b.rank (service_of m.topic) number e in
    record { within = holds.0; rank = holds.1; name = holds.2 }
