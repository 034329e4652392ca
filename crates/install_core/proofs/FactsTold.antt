-- What facts that were gathered tell of the world before.
use Rattle.std.proofs.Common.{◌≡◌, Option, Some, Result, Ok, Err, sym, ◌∙◌, ap}
use Rattle.machine.specs.Past.{Past, world_now}
use Rattle.machine.specs.Runs.{runs_since}
use Rattle.machine.specs.declared.world.World.{World}
use Rattle.manifest.specs.Contents.{Content}
use Rattle.child_steps.specs.Bundle.{bundle_at}
use Rattle.child_steps.specs.declared.bundle.BundleRefusal.{BundleRefusal}
use Rattle.running_system.specs.Running.{what_runs}
use Rattle.slot_graph.specs.declared.state.Booted.{Booted}
use Rattle.slot_graph.specs.declared.state.Booted.TheVariants as booted
use Rattle.status_file.specs.Clock.{clock_since}
use Rattle.status_file.specs.Status.{book_in, is_unread, status_bytes}
use Rattle.status_file.specs.Truth.{stored_book}
use Rattle.system_conf.specs.Configuration.{Configuration}
use Rattle.install_facts.specs.Facts.{FactsContent, KnownContent, acceptance, accepted_in, after, booted_known, chosen_of, facts_from, facts_in, known_in, known_with}
use Rattle.install_facts.specs.Gathering.{facts_since}
use Rattle.install_facts.specs.declared.refusal.InstallRefusal.{InstallRefusal}
use Rattle.install_facts.specs.declared.request.Request.{Request}
use Rattle.install_core.proofs.FactsFit.{after_ok}

-- it is known what is booted
booted_is : (b x : Booted) → booted_known b ≡ Ok x → x ≡ b
booted_is booted.Unknown x e = absurd (cc)
booted_is booted.External x e = cc
booted_is (booted.Slot root) x e = cc

some_ok : {A : Type 0} (x y : Result A InstallRefusal) → Some x ≡ Some y → x ≡ y
some_ok x y e = cc

some_one : {A : Type 0} (x y : A) → ◌≡◌ {A = Option (Result A InstallRefusal)} (Some (Ok x)) (Some (Ok y)) → x ≡ y
some_one x y e = cc

module _ (c : Configuration) (b : Booted) (w : World) where
  known_as : (content : Result Content BundleRefusal) (k : KnownContent) → known_with b (book_in c.slots (status_bytes c w)) (is_unread c.slots (status_bytes c w)) content ≡ Ok k
      → (k.booted ≡ b) × (k.book ≡ stored_book c w)
  known_as (Err why) k e = absurd (cc)
  known_as (Ok content) k e =
      let same : record { booted = b; book = book_in c.slots (status_bytes c w); unread = is_unread c.slots (status_bytes c w); content = content } ≡ k = cc in
      (ap (λ (x : KnownContent). x.booted) (sym same), ap (λ (x : KnownContent). x.book) (sym same))

-- what is booted, and the book
pub facts_tell : (c : Configuration) (r : Request) (a g : Past) (f : FactsContent) → facts_since c r a g ≡ Some (Ok f) → (f.booted ≡ what_runs c.slots r.given_boot (world_now a)) × (f.book ≡ stored_book c (world_now a))
facts_tell c r a g f told =
    let w = world_now a in
    let v = world_now g in
    let notes = runs_since w v in
    let clock = clock_since a g in
    let first = after_ok (Some (booted_known (what_runs c.slots r.given_boot w))) (λ b. facts_in c r b w v notes clock) f told in
    let b = first.0 in
    let is = booted_is (what_runs c.slots r.given_boot w) b (some_ok _ _ first.1) in
    let second = after_ok (accepted_in c r b w notes) (λ k. after (chosen_of c k v clock) (λ x. Some (Ok (facts_from c k x)))) f first.2 in
    let k = second.0 in
    let third = after_ok (Some (known_in c b w)) (λ k. after (acceptance c r k.content notes) (λ accepted. Some (Ok k))) k second.1 in
    let fourth = after_ok (acceptance c r third.0.content notes) (λ accepted. Some (Ok third.0)) k third.2 in
    let same : third.0 ≡ k = some_one third.0 k fourth.2 in
    let known = known_as c b w (bundle_at c w) third.0 (some_ok _ _ third.1) in
    let last = after_ok (chosen_of c k v clock) (λ x. Some (Ok (facts_from c k x))) f second.2 in
    let facts_is : facts_from c k last.0 ≡ f = some_one (facts_from c k last.0) f last.2 in (
      ap (λ (x : FactsContent). x.booted) (sym facts_is) ∙ ap (λ (x : KnownContent). x.booted) (sym same) ∙ known.0 ∙ is,
      ap (λ (x : FactsContent). x.book) (sym facts_is) ∙ ap (λ (x : KnownContent). x.book) (sym same) ∙ known.1,
    )
