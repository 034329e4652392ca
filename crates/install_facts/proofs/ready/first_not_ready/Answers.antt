use Rattle.std.proofs.Common.{◌≡◌, ℤ, Option, subst, ◌∙◌, ap, to_z, of_z, w64}
use Rattle.std.proofs.lemmas.Int.{to_z-of_z}
use Rattle.conf_forms.specs.Lists.{first_of, or_else}
use Rattle.slot_status.specs.Refusals.{ready_refusal}
use Rattle.slot_status.specs.declared.refusal.StatusRefusal.{StatusRefusal}
use Rattle.install_facts.specs.Facts.{first_not_ready}
use Rattle.install_facts.proofs.ready.first_not_ready.Goals as goal

pub returns-in-None : goal.returns-in-None
returns-in-None c =
    let seconds = to_z w64 (of_z w64 c.args.now) in
    subst (λ (n : ℤ). c.root_not_ready.result ≡ first_not_ready c.args.jobs.now c.args.book.now n) (to_z-of_z w64 c.args.now c.ranges.now)
    (c.root_not_ready.ensures
    ∙ ap (λ (o : Option StatusRefusal). or_else o (first_of (λ job. ready_refusal c.args.book.now job.root seconds) c.args.jobs.now)) c.in-None.ensures)
