use Rattle.std.proofs.Common.{◌≡◌, ◌∙◌, ap, codes, true, false}
use Rattle.std.proofs.lemmas.Result.{IfOk-weaker}
use Rattle.clap.specs.Words.{App, app_of, rule_of, new_app}
use Rattle.clap.specs.Simple.{app_of_fields, on_top}
use Rattle.clap.specs.declared.builder.Arg.{Arg}
use Rattle.rauc_words.specs.Rules.{option_rule, flag_rule, with_short}
use Rattle.rauc_words.proofs.Building.{added}
use Rattle.rauc_words.proofs.command_line.reader.Goals as goal

abbrev base : App
base = on_top (λ s. record s { no_binary_name = true; disable_help_flag = true }) (new_app (codes "rauc"))

pub returns : goal.returns
returns c =
    let bin : app_of c.no_binary_name.result ≡ on_top (λ s. record s { no_binary_name = true }) (new_app (codes "rauc")) =
    ap app_of_fields c.no_binary_name.ensures ∙ ap (on_top (λ s. record s { no_binary_name = true })) c.new.ensures.app in
    let start : app_of c.disable_help_flag.result ≡ base =
    ap app_of_fields c.disable_help_flag.ensures ∙ ap (on_top (λ s. record s { disable_help_flag = true })) bin in
    let conf_local : c.short.result.global ≡ false = ap (λ (a : Arg). a.global) c.short.ensures ∙ c.option_arg.ensures.local in
    let conf_rule : rule_of c.short.result ≡ with_short 99 (option_rule (codes "conf")) =
    ap rule_of c.short.ensures ∙ ap (with_short 99) c.option_arg.ensures.rule in
    let help_local : c.short-2.result.global ≡ false = ap (λ (a : Arg). a.global) c.short-2.ensures ∙ c.flag_arg-3.ensures.local in
    let help_rule : rule_of c.short-2.result ≡ with_short 104 (flag_rule (codes "help")) =
    ap rule_of c.short-2.ensures ∙ ap (with_short 104) c.flag_arg-3.ensures.rule in
    let a1 = added _ _ _ _ _ c.in_ok-arg.ensures c.new-2.ensures.optional.1 start c.new-2.ensures.rule in
    let a2 = added _ _ _ _ _ c.in_ok-arg-2.ensures c.new-3.ensures.optional.1 a1 c.new-3.ensures.rule in
    let a3 = added _ _ _ _ _ c.in_ok-arg-3.ensures c.new-4.ensures.optional.1 a2 c.new-4.ensures.rule in
    let a4 = added _ _ _ _ _ c.in_ok-arg-4.ensures conf_local a3 conf_rule in
    let a5 = added _ _ _ _ _ c.in_ok-arg-5.ensures c.option_arg-2.ensures.local a4 c.option_arg-2.ensures.rule in
    let a6 = added _ _ _ _ _ c.in_ok-arg-6.ensures c.option_arg-3.ensures.local a5 c.option_arg-3.ensures.rule in
    let a7 = added _ _ _ _ _ c.in_ok-arg-7.ensures c.option_arg-4.ensures.local a6 c.option_arg-4.ensures.rule in
    let a8 = added _ _ _ _ _ c.in_ok-arg-8.ensures c.option_arg-5.ensures.local a7 c.option_arg-5.ensures.rule in
    let a9 = added _ _ _ _ _ c.in_ok-arg-9.ensures c.flag_arg.ensures.local a8 c.flag_arg.ensures.rule in
    let a10 = added _ _ _ _ _ c.in_ok-arg-10.ensures c.flag_arg-2.ensures.local a9 c.flag_arg-2.ensures.rule in
    IfOk-weaker c.arg-11.result _ _ (λ r h. added _ _ _ _ _ h help_local a10 help_rule) c.arg-11.ensures
