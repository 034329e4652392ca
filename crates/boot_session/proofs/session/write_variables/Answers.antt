use Rattle.std.proofs.Common.{ℕ, Vec, Global, option_copied, sym, ◌∙◌, ap, arith}
use Rattle.std.specs.FinMap.{entries, len-entries}
use Rattle.boot_programs.proofs.Entries.{entry_written, all_written}
use Rattle.boot_session.specs.Session.{variable_line}
use Rattle.boot_session.proofs.Listing.{entry_there, name_there}
use Rattle.boot_session.proofs.session.write_variables.Goals.{in-Some+in_ok-write_variable, in_default}
use Rattle.boot_session.proofs.session.write_variables.Goals as goal

pub loop-at-preserved : goal.loop-at-preserved
loop-at-preserved c =
    let all = entries c.args.vars.now in
    elim c.match-name.branch [
      | in-Some+in_ok-write_variable w ↦
          entry_written variable_line all c.loop-at.at c.loop-at.page.items _ c.loop-at.invariant c.match-name.page.items _
          (entry_there c.args.vars.now c.loop-at.at (rw (← len-entries c.args.vars.now) (omega arith)) w.in-Some.name.now (sym c.name.ensures ∙ ap option_copied w.in-Some.is))
          (ap (λ (v : Vec ℕ Global). v.items) w.page-is ∙ w.in_ok-write_variable.ensures)
      | in_default w ↦
          absurd (name_there c.args.vars.now c.loop-at.at (rw (← len-entries c.args.vars.now) (omega arith)) (sym c.name.ensures ∙ ap option_copied w.in_default.is))
    ]

pub returns : goal.returns
returns c = all_written variable_line _ c.loop-at.at _ _ c.loop-at.invariant (rw (← len-entries c.args.vars.now) (omega arith))
