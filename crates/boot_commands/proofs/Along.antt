-- What holds of the variables before each of some commands, and at the end.
use Rattle.std.proofs.Common.{◌≡◌, List, [], ◌∷◌, ◌++◌, sym, subst}
use Rattle.boot_model.specs.Vars.{Variables}
use Rattle.boot_model.specs.declared.boot_kind.BootKind.{BootKind}
use Rattle.boot_programs.specs.Programs.{program}
use Rattle.boot_commands.specs.Commands.{argv}
use Rattle.boot_commands.specs.Effects.{vars_after}
use Rattle.boot_commands.specs.declared.command.Command.{Command}

module _ (P : Variables → Type 0) (kind : BootKind) where
  -- before each command and at the end
  abbrev pub Along : List Command → Variables → Type 0
  Along [] vars = P vars
  Along (command ∷ commands) vars = P vars × Along commands (program kind (argv command) vars).vars

  pub from_start : (commands : List Command) (vars : Variables) → Along commands vars → P vars
  from_start [] vars h = h
  from_start (command ∷ commands) vars h = h.0

  -- so it holds after each first part of them
  pub after_part : (done left commands : List Command) (vars : Variables) → commands ≡ done ++ left → Along commands vars → P (vars_after kind done vars)
  after_part [] left commands vars e h = from_start commands vars h
  after_part (d ∷ done) left [] vars e h = absurd (cc)
  after_part (d ∷ done) left (c ∷ commands) vars e h =
      let same : c ≡ d = cc in
      let rest : commands ≡ done ++ left = cc in
      after_part done left commands (program kind (argv d) vars).vars rest (subst (λ (x : Command). Along commands (program kind (argv x) vars).vars) same h.1)

  pub at_end : (commands : List Command) (vars : Variables) → Along commands vars → P (vars_after kind commands vars)
  at_end [] vars h = h
  at_end (command ∷ commands) vars h = at_end commands (program kind (argv command) vars).vars h.1

  -- at most one command reads first
  abbrev pub AtMostOne : List Command → Type 0
  AtMostOne [] = Unit {0}
  AtMostOne (command ∷ []) = Unit {0}
  AtMostOne (command ∷ next ∷ commands) = ⊥

  pub behind_looks : (reading commands : List Command) (vars : Variables) → AtMostOne reading → vars_after kind reading vars ≡ vars → Along commands vars → Along (reading ++ commands) vars
  behind_looks [] commands vars few keeps h = h
  behind_looks (c ∷ []) commands vars few keeps h = (from_start commands vars h, subst (Along commands) (sym keeps) h)
  behind_looks (c ∷ d ∷ reading) commands vars few keeps h = absurd few

  -- at most two write, and what is between them is this
  abbrev pub Between : List Command → Variables → Type 0
  Between [] vars = Unit {0}
  Between (command ∷ []) vars = Unit {0}
  Between (command ∷ next ∷ []) vars = P (program kind (argv command) vars).vars
  Between (command ∷ next ∷ other ∷ commands) vars = ⊥

  pub by_ends : (commands : List Command) (vars : Variables) → Between commands vars → P vars → P (vars_after kind commands vars) → Along commands vars
  by_ends [] vars between start end = start
  by_ends (c ∷ []) vars between start end = (start, end)
  by_ends (c ∷ d ∷ []) vars between start end = (start, (between, end))
  by_ends (c ∷ d ∷ e ∷ commands) vars between start end = absurd between
