use Rattle.std.proofs.Common.{ℕ, List, Bor, Vec, Global, sym, ◌∙◌, ap, arith}
use Rattle.std.specs.Option.{option_map}
use Rattle.std.specs.FinMap.{entries, len-entries}
use Rattle.boot_programs.proofs.Entries.{entry_written, all_written, none_left}
use Rattle.boot_programs.proofs.efi.write_entries.Goals.{in-Some+in_ok-write_entry, in_default}
use Rattle.boot_programs.proofs.efi.write_entries.Goals as goal

pub loop-at-preserved : goal.loop-at-preserved
loop-at-preserved c =
    elim c.match-entry_at.branch [
      | in-Some+in_ok-write_entry w ↦
          entry_written _ (entries c.args.vars.now) c.loop-at.at c.loop-at.out.items _ c.loop-at.invariant c.match-entry_at.out.items (w.in-Some.name.now, w.in-Some.label.now)
          (sym c.entry_at.ensures ∙ ap (option_map (λ (e : Bor (List ℕ) × Bor (List ℕ)). (e.0.now, e.1.now))) w.in-Some.is)
          (ap (λ (v : Vec ℕ Global). v.items) w.out-is ∙ w.in_ok-write_entry.ensures)
      | in_default w ↦
          absurd (none_left _ (entries c.args.vars.now) c.loop-at.at c.loop-at.out.items _ c.loop-at.invariant (rw (← len-entries c.args.vars.now) (omega arith))
          (sym c.entry_at.ensures ∙ ap (option_map (λ (e : Bor (List ℕ) × Bor (List ℕ)). (e.0.now, e.1.now))) w.in_default.is))
    ]

pub returns : goal.returns
returns c = all_written _ (entries c.args.vars.now) c.loop-at.at _ _ c.loop-at.invariant (rw (← len-entries c.args.vars.now) (omega arith))
