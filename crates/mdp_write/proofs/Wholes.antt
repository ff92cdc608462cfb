-- What is known of a command whose length was told.
use mathlib.Core.Path.{◌≡◌, refl, sym, ap, ◌∙◌}
use Prim.Native.Nat.{ℕ, ◌≤◌}
use mathlib.Core.List.{List, ◌++◌}
use native.Mathlib.Omega.{arith}
use lib.ListN.{length}
use Rattle.bytes_number.specs.Number.{Bytes}
use Rattle.refusal.specs.declared.Refusal.{Refusal}
use Rattle.refusal.specs.Answer.{Answer, refused, answered, written_over}
use Rattle.std.specs.Prelude.{Ok, Err}
use Rattle.frame_message.specs.Frame.{joined}
use Rattle.frame_message.specs.Working.{written_as}
use Rattle.mdp_command.specs.CommandBytes.{front_parts}
use Rattle.mdp_command.specs.CommandWriting.{Given, command_of, command_into}
use Rattle.mdp_command.proofs.Cutting.{cut_split}
use Rattle.mdp_command.proofs.RoundTrip.{bytes_split, gave}
use Rattle.mdp_write.specs.WorkingFront.{front_of}

never : {r : Refusal} {n : ℕ} → Err r ≡ Ok n → ⊥
never e = let z : ◌≡◌ {A = ℕ} 0 1 = cc in omega arith

-- the bytes of an answer whose length was told
record ToldOf (a : Answer (List ℕ)) (n : ℕ) : Type 0 where
  bytes : List ℕ
  is : a ≡ answered bytes
  long : n ≡ length bytes

told_of_lem : (a : Answer (List ℕ)) {n : ℕ} → written_as a ≡ Ok n → ToldOf a n
told_of_lem (refused q) e = absurd (never e)
told_of_lem (answered bytes) e = record { bytes = bytes; is = refl; long = cc }

-- they are what stands in front of the body, and the body
pub record Told (room : ℕ) (g : Given) (n : ℕ) : Type 0 where
  pub writes : command_into room g ≡ answered (joined (front_of g.sender g.code g.name g.address) ++ g.body)
  pub long : n ≡ length (joined (front_of g.sender g.code g.name g.address) ++ g.body)
  pub fits : length (joined (front_of g.sender g.code g.name g.address) ++ g.body) ≤ room

same_front : (g : Given) (parts : List (List ℕ)) → front_parts (command_of g parts) ≡ front_of g.sender g.code g.name g.address
unfolding front_parts
same_front g parts = refl

pub told_given : (room : ℕ) (g : Given) {n : ℕ} → Bytes g.body → written_as (command_into room g) ≡ Ok n → Told room g n
told_given room g {n} are e =
    let t = told_of_lem (command_into room g) e in
    let w = gave room g t.bytes t.is in
    let c = command_of g w.parts in
    let body = (cut_split g.body w.parts are w.cuts).same in
    let same : t.bytes ≡ joined (front_of g.sender g.code g.name g.address) ++ g.body =
    sym w.written.same ∙ bytes_split c ∙ ap (λ (ps : List (List ℕ)). joined ps ++ joined w.parts) (same_front g w.parts) ∙ ap (λ (xs : List ℕ). joined (front_of g.sender g.code g.name g.address) ++ xs) (sym body) in
    record { writes = t.is ∙ ap answered same; long = t.long ∙ ap length same; fits = omega (arith, w.fits, ap length same) }

-- a refusal writes nothing
pub untouched : (a : Answer (List ℕ)) {r : Refusal} (out : List ℕ) → Err r ≡ written_as a → out ≡ written_over a out
untouched (refused q) out e = refl
untouched (answered bytes) out e = absurd (never e)
