-- An error reply or silence: one law for each way that it ends.
use mathlib.Core.Path.{◌≡◌, sym, ap, ◌∙◌}
use mathlib.Core.Bool.{Bool, true, false, cond}
use Prim.Native.Nat.{ℕ}
use mathlib.Core.List.{List}
use Rattle.frame_message.specs.declared.Header.{Header}
use Rattle.frame_message.specs.Header.{no_response}
use Rattle.step_routing.specs.declared.Broker.{Broker}
use Rattle.step_routing.specs.declared.Stepped.TheVariants.{Replied, Silenced}
use Rattle.step_apply.specs.WorkingApply.{reply_in, AppliesError}

module _ {b : Broker} {errnum : ℕ} {header : Header} {kept : ℕ} {buffer : List ℕ} where
  pub fails_silent : no_response header.flags ≡ true → AppliesError b errnum header kept buffer (Silenced errnum) buffer
  fails_silent e =
      record {
        told = sym (ap (λ (t : Bool). cond t (Silenced errnum) (Replied errnum)) e);
        leaves = sym (ap (λ (t : Bool). cond t buffer (reply_in b errnum header kept buffer)) e);
      }

  -- the reply carries the number that is told
  pub fails_replied : {left : List ℕ} {number : ℕ} → no_response header.flags ≡ false → number ≡ errnum → left ≡ reply_in b number header kept buffer →
      AppliesError b errnum header kept buffer (Replied errnum) left
  fails_replied e same is =
      record {
        told = sym (ap (λ (t : Bool). cond t (Silenced errnum) (Replied errnum)) e);
        leaves = is ∙ ap (λ (n : ℕ). reply_in b n header kept buffer) same ∙ sym (ap (λ (t : Bool). cond t buffer (reply_in b errnum header kept buffer)) e);
      }
