use Rattle.std.proofs.Common.{◌≡◌, ◌+◌, ◌<◌, ◌∷◌, ◌++◌, [], List, length, take, sym, ◌∙◌, ap, arith}
use Rattle.std.specs.Process.{command_var}
use Rattle.std.proofs.lemmas.List.{take_more}
use Rattle.machine.specs.declared.world.EnvVar.{EnvVar}
use Rattle.machine_linux.proofs.Variables.{value_after, value_more}
use Rattle.machine_linux.proofs.children.add_vars.Goals as goal

pub loop-var-preserved : goal.loop-var-preserved
loop-var-preserved c =
    let done : List EnvVar = take c.loop-var.var-index c.args.vars.now in
    let within : c.loop-var.var-index < length c.args.vars.now = omega arith in
    let next : take (c.loop-var.var-index + 1) c.args.vars.now ≡ done ++ c.var-item.result ∷ [] = take_more c.args.vars.now c.loop-var.var-index c.var-item.result within ∙ ap (λ (v : EnvVar). done ++ v ∷ []) (sym c.var-item.is) in
    record {
      vars = λ name.
          value_more c.args.command.now c.loop-var.command c.add_var.new.command done c.var-item.result name (c.loop-var.invariant.vars name) c.in_ok-add_var.ensures.set c.in_ok-add_var.ensures.others
          ∙ ap (λ (vs : List EnvVar). value_after vs name (command_var c.args.command.now name)) (sym next);
      call = (
        c.in_ok-add_var.ensures.call.0 ∙ c.loop-var.invariant.call.0,
        c.in_ok-add_var.ensures.call.1 ∙ c.loop-var.invariant.call.1,
      );
      inherits = c.in_ok-add_var.ensures.inherits ∙ c.loop-var.invariant.inherits;
    }
