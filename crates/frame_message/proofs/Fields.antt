-- One law for each case of the tests on a header's fields.
use mathlib.Core.Path.{◌≡◌}
use mathlib.Core.Bool.{Bool, true, not, ◌&&◌}
use lib.Dec.{eqb, ltb}
use Prim.Native.Nat.{◌<◌}
use borrow.Author.Tests.{eq-eqb, ne_eqb, lt-ltb, eqb-true, ltb-true}
use Rattle.bytes_number.proofs.Truth.{and_left, and_right}
use Rattle.frame_message.specs.declared.Header.{Header}
use Rattle.frame_message.specs.Header.{has_topic, has_payload, has_route, is_type, are_flags, parts_fit, fields_good}
use Rattle.frame_message.specs.Working.{is_known}

module _ (h : Header) where
  pub known_in : is_type h.kind ≡ true → h.flags < 128 → is_known h ≡ true
  unfolding is_known
  known_in e l = rw (e, lt-ltb h.flags 128 l)

  pub known_flags : is_known h ≡ true → h.flags < 128
  unfolding is_known
  known_flags e = ltb-true h.flags 128 (and_right (is_type h.kind) (ltb h.flags 128) e)

  pub known_type : is_known h ≡ true → is_type h.kind ≡ true
  unfolding is_known
  known_type e = and_left (is_type h.kind) (are_flags h.flags) e

  -- which parts go with a control message, an event, a request or a response; r, t and p say which flags are set
  module _ {r t p : Bool} (er : r ≡ has_route h.flags) (et : t ≡ has_topic h.flags) (ep : p ≡ has_payload h.flags) where
    pub control_fits : h.kind ≡ 8 → parts_fit h ≡ (not r && not t && not p)
    unfolding parts_fit
    control_fits e = rw (eq-eqb h.kind 8 e, er, et, ep)

    pub event_fits : (h.kind ≡ 8 → ⊥) → h.kind ≡ 4 → parts_fit h ≡ (not r && t)
    unfolding parts_fit
    event_fits n e = rw (ne_eqb h.kind 8 n, eq-eqb h.kind 4 e, er, et)

    pub call_fits : (h.kind ≡ 8 → ⊥) → (h.kind ≡ 4 → ⊥) → parts_fit h ≡ (r && t)
    unfolding parts_fit
    call_fits n k = rw (ne_eqb h.kind 8 n, ne_eqb h.kind 4 k, er, et)

  pub request_fields : h.kind ≡ 1 → fields_good h ≡ not (eqb h.first 4294967294)
  unfolding fields_good
  request_fields e = rw (eq-eqb h.kind 1 e)

  module _ (n : (h.kind ≡ 1 → ⊥)) (e : h.kind ≡ 4) where
    pub event_good : h.second ≡ 0 → fields_good h ≡ true
    unfolding fields_good
    event_good z = rw (ne_eqb h.kind 1 n, eq-eqb h.kind 4 e, eq-eqb h.second 0 z)

    pub event_unused : fields_good h ≡ true → h.second ≡ 0
    unfolding fields_good
    event_unused t = eqb-true h.second 0 (rw (ne_eqb h.kind 1 n, eq-eqb h.kind 4 e) at t)

  pub free_fields : (h.kind ≡ 1 → ⊥) → (h.kind ≡ 4 → ⊥) → fields_good h ≡ true
  unfolding fields_good
  free_fields n k = rw (ne_eqb h.kind 1 n, ne_eqb h.kind 4 k)
