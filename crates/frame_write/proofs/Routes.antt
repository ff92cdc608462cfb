-- Laws on the routes that are laid one at a time: the parts of those in front are laid, and with the parts of those that are left they are
-- the parts of all.
use Rattle.std.proofs.Common.{arith, ◌≡◌, ◌∙◌, sym, ap, ℕ, ◌+◌, ◌-◌, ◌≤◌, List, [], ◌++◌, append_assoc, length, length-append, Bor, Some, None}
use mathlib.Core.List.{append-nil}
use borrow.Rule.Slice.PartMut.{mid_of, put_mid}
use Rattle.std.specs.declared.slice.ChunksExact.{ChunksExact}
use Rattle.std.specs.Slice.Iter.{chunks_exact_rest, chunks_exact_steps}
use Rattle.frame_message.specs.Frame.{part_bytes, joined}
use Rattle.frame_message.specs.Writing.{cut}
use Rattle.bytes_number.specs.WorkingLays.{Lays}
use Rattle.bytes_number.proofs.Laying.{lays_none, lays_more, lays_length}
use Rattle.frame_write_given.proofs.Chunks.{Whole, whole_more, whole_none}

-- so many bytes are laid, and these routes are still to be yielded
pub record Begun (routes lent out : List ℕ) (at : ℕ) (s : ChunksExact ℕ) : Type 0 where
  pub left : Whole s
  pub done : List ℕ
  pub lays : Lays done lent out at
  pub rest : done ++ joined (cut (chunks_exact_rest s)) ≡ joined (cut routes)

pub begun_none : (routes lent : List ℕ) {s : ChunksExact ℕ} → Whole s → chunks_exact_rest s ≡ routes → Begun routes lent lent 0 s
begun_none routes lent w e = record { left = w; done = []; lays = lays_none lent; rest = ap (λ (xs : List ℕ). joined (cut xs)) e }

module _ {routes lent out : List ℕ} {at : ℕ} {s : ChunksExact ℕ} (b : Begun routes lent out at s) (room : length (joined (cut routes)) ≤ length lent) where
  -- what is laid and what is left have room
  pub begun_room : length b.done + length (joined (cut (chunks_exact_rest s))) ≤ length lent
  begun_room = omega (arith, simp length-append at (ap length b.rest))

  pub begun_length : length out ≡ length lent
  begun_length = lays_length b.lays (omega (arith, begun_room))

  module _ (x : Bor (List ℕ)) (t : ChunksExact ℕ) (step : chunks_exact_steps s (Some x) t) where
    -- room for one route more
    pub next_room : length (b.done ++ part_bytes x.now) ≤ length lent
    next_room = simp length-append (omega (arith, begun_room, simp length-append at (ap (λ (xs : List (List ℕ)). length (joined xs)) (whole_more {t = t} b.left x step).1)))

    -- one route more is laid
    pub next : {last : List ℕ} {n : ℕ} → Lays (part_bytes x.now) (mid_of at (length out - at) out) last n → Begun routes lent (put_mid at (length out - at) out last) (at + n) t
    next l =
        record {
          left = (whole_more {t = t} b.left x step).0;
          done = b.done ++ part_bytes x.now;
          lays = lays_more b.lays l;
          rest = append_assoc b.done (part_bytes x.now) (joined (cut (chunks_exact_rest t))) ∙ ap (λ (xs : List (List ℕ)). b.done ++ joined xs) (sym (whole_more {t = t} b.left x step).1) ∙ b.rest;
        }

  -- all are laid
  pub begun_all : {t : ChunksExact ℕ} → chunks_exact_steps s None t → Lays (joined (cut routes)) lent out at
  begun_all step =
      let all : b.done ≡ joined (cut routes) = sym (append-nil b.done) ∙ rw (whole_none b.left step) at b.rest in
      rw all at b.lays
