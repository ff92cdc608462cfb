-- The step: one law for each way through its order.
use Rattle.std.specs.Prelude.{Result, Ok, Err}
use mathlib.Core.Path.{◌≡◌, sym, ap, ◌∙◌}
use mathlib.Core.Bool.{true, false, not}
use Prim.Native.Nat.{ℕ, ◌<◌, ◌≤◌}
use mathlib.Core.List.{List}
use borrow.Author.Tests.{lt-ltb, le-ltb, ltb-true, not-false}
use lib.Dec.{ltb}
use lib.ListN.{length}
use Rattle.refusal.specs.declared.Refusal.{Refusal}
use Rattle.refusal.specs.declared.Refusal.TheVariants.{OutputShort, TreeWrong, ServicesWrong, IdentitiesWrong, RankWrong}
use Rattle.refusal.specs.Answer.{Answer, refused, answered, refuse_if, and_then}
use Rattle.frame_message.specs.Message.{Message}
use Rattle.frame_message.specs.Frame.{frame_of}
use Rattle.frame_message.specs.Reading.{reading_of}
use Rattle.refusal.proofs.Answers.{answered_same, passed, both}
use Rattle.frame_layout.specs.declared.Layout.{Layout}
use Rattle.frame_layout.specs.Layout.{layout_of}
use Rattle.frame_layout.specs.WorkingPlacing.{read_as}
use Rattle.frame_body.proofs.Readings.{accepted_read}
use Rattle.table_tree.specs.Tree.{ranks_in}
use Rattle.table_tree.specs.Depths.{tree_good}
use Rattle.table_services.specs.Services.{services_good}
use Rattle.table_identities.specs.Identities.{identities_good}
use Rattle.step_routing.specs.declared.Broker.{Broker}
use Rattle.step_routing.specs.Routed.{Tables, Outcome, delivered, forwarded, replied, silenced, home, routed}
use Rattle.step_pass.specs.Step.{room_for, pass_of, step_of}
use Rattle.step_pass.specs.Working.{held_in}

-- ---- a reading, by what the reader says of it

pub record Held (b : List ℕ) (f : Layout) : Type 0 where
  pub read : reading_of b ≡ answered (held_in b)
  pub places : f ≡ layout_of (held_in b)

held_read : (b : List ℕ) (m : Message) → reading_of b ≡ answered m → held_in b ≡ m
unfolding held_in
held_read b m e = rw e

pub read_accepted : (b : List ℕ) (f : Layout) → Ok f ≡ read_as (reading_of b) → Held b f
read_accepted b f e =
    let r = accepted_read (reading_of b) e in
    let held = held_read b r.message r.is in
    record { read = r.is ∙ ap answered (sym held); places = r.places ∙ ap layout_of (sym held) }

-- ---- the step where the tables are right

module _ (t : Tables) (who : Broker) (b : List ℕ) where
  pub pass_outside : ranks_in t.tree ≤ who.rank → pass_of t who b ≡ refused RankWrong
  unfolding pass_of
  pass_outside h = rw (le-ltb who.rank (ranks_in t.tree) h)

  module _ (inside : who.rank < ranks_in t.tree) where
    pub pass_unread : (r : Refusal) → reading_of b ≡ refused r → pass_of t who b ≡ refused r
    unfolding pass_of
    pass_unread r e = rw (lt-ltb who.rank (ranks_in t.tree) inside, e)

    -- "a buffer with the frame at its front": on a buffer that holds a message the step is the step on the message
    pub pass_read : (m : Message) → reading_of b ≡ answered m → pass_of t who b ≡ and_then (routed t who m) (room_for (length b))
    unfolding pass_of
    pass_read m e = rw (lt-ltb who.rank (ranks_in t.tree) inside, e)

    pub pass_as : (m : Message) {a : Answer Outcome} → reading_of b ≡ answered m → routed t who m ≡ a → pass_of t who b ≡ and_then a (room_for (length b))
    pass_as m e w = pass_read m e ∙ ap (λ (a : Answer Outcome). and_then a (room_for (length b))) w

-- ---- 14, 15, 16

module _ (t : Tables) (who : Broker) (b : List ℕ) where
  pub step_tree : tree_good t.tree ≡ false → step_of t who b ≡ refused TreeWrong
  unfolding step_of
  step_tree e = rw e

  pub step_services : tree_good t.tree ≡ true → services_good t.tree t.services ≡ false → step_of t who b ≡ refused ServicesWrong
  unfolding step_of
  step_services g e = rw (g, e)

  module _ (g : tree_good t.tree ≡ true) (s : services_good t.tree t.services ≡ true) where
    pub step_identities : identities_good t.tree t.identities ≡ false → step_of t who b ≡ refused IdentitiesWrong
    unfolding step_of
    step_identities e = rw (g, s, e)

    pub step_pass : identities_good t.tree t.identities ≡ true → step_of t who b ≡ pass_of t who b
    unfolding step_of
    step_pass e = rw (g, s, e)

-- ---- what an answer tells of the tests in front of it

-- only room is asked for behind the step on the message
room_same : (n : ℕ) (o p : Outcome) → room_for n o ≡ answered p → o ≡ p
room_same n (delivered number) p e = answered_same e
room_same n (forwarded next m) p e = answered_same (passed (ltb n (length (frame_of m))) OutputShort (answered (forwarded next m)) p e).rest
room_same n (replied errnum m) p e = answered_same e
room_same n (silenced errnum) p e = answered_same e
room_same n home p e = answered_same e

pub record Took (t : Tables) (who : Broker) (b : List ℕ) (o : Outcome) : Type 0 where
  pub tree : tree_good t.tree ≡ true
  pub services : services_good t.tree t.services ≡ true
  pub identities : identities_good t.tree t.identities ≡ true
  pub inside : who.rank < ranks_in t.tree
  pub message : Message
  pub read : reading_of b ≡ answered message
  pub does : routed t who message ≡ answered o
  pub room : room_for (length b) o ≡ answered o

pub step_took : (t : Tables) (who : Broker) (b : List ℕ) (o : Outcome) → step_of t who b ≡ answered o → Took t who b o
unfolding step_of pass_of
step_took t who b o e =
    let onMessage : Message → Answer Outcome = λ m. and_then (routed t who m) (room_for (length b)) in
    let reads : Answer Outcome = and_then (reading_of b) onMessage in
    let ranked : Answer Outcome = refuse_if (not (ltb who.rank (ranks_in t.tree))) RankWrong reads in
    let named : Answer Outcome = refuse_if (not (identities_good t.tree t.identities)) IdentitiesWrong ranked in
    let served : Answer Outcome = refuse_if (not (services_good t.tree t.services)) ServicesWrong named in
    let p₁ = passed (not (tree_good t.tree)) TreeWrong served o e in
    let p₂ = passed (not (services_good t.tree t.services)) ServicesWrong named o p₁.rest in
    let p₃ = passed (not (identities_good t.tree t.identities)) IdentitiesWrong ranked o p₂.rest in
    let p₄ = passed (not (ltb who.rank (ranks_in t.tree))) RankWrong reads o p₃.rest in
    let read = both (reading_of b) onMessage o p₄.rest in
    let done = both (routed t who read.value) (room_for (length b)) o read.second in
    let same = room_same (length b) done.value o done.second in
    record {
      tree = not-false (tree_good t.tree) p₁.test;
      services = not-false (services_good t.tree t.services) p₂.test;
      identities = not-false (identities_good t.tree t.identities) p₃.test;
      inside = ltb-true who.rank (ranks_in t.tree) (not-false (ltb who.rank (ranks_in t.tree)) p₄.test);
      message = read.value;
      read = read.first;
      does = done.first ∙ ap answered same;
      room = sym (ap (room_for (length b)) same) ∙ done.second;
    }
