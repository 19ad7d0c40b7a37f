use Rattle.std.proofs.Common.{ap, ap₂, true, codes, ◌≡◌, ◌∙◌}
use Rattle.std.proofs.lemmas.Result.{IfOk-weaker}
use Rattle.clap.specs.Words.{App, Rule, app_of, rule_of, new_rule, with_rule}
use Rattle.clap.specs.declared.builder.arg.Arg.{Arg}
use Rattle.clap.specs.Simple.{app_of_fields}
use Rattle.usbgate_commands.specs.words.CommandLine.{program}
use Rattle.usbgate_commands.proofs.words.command_line.command_line.Goals as goal

pub returns : goal.returns
returns c =
    let named : app_of c.no_binary_name.result ≡ program = ap app_of_fields c.no_binary_name.ensures ∙ ap (λ (a : App). record a { top = record a.top { no_binary_name = true } }) c.new.ensures.app in
    let command_is : rule_of c.required.result ≡ record (new_rule (codes "command")) { required = true } =
    ap rule_of c.required.ensures ∙ ap (λ (r : Rule). record r { required = true }) c.new-2.ensures.rule in
    let command = c.in_ok-arg.ensures.shape (ap (λ (a : Arg). a.global) c.required.ensures ∙ c.new-2.ensures.optional.1) ∙ ap₂ with_rule named command_is in
    let number = c.in_ok-arg-2.ensures.shape c.new-3.ensures.optional.1 ∙ ap₂ with_rule command c.new-3.ensures.rule in
    let device = c.in_ok-arg-3.ensures.shape c.option.ensures.local ∙ ap₂ with_rule number c.option.ensures.rule in
    let side = c.in_ok-arg-4.ensures.shape c.option-2.ensures.local ∙ ap₂ with_rule device c.option-2.ensures.rule in
    let host = c.in_ok-arg-5.ensures.shape c.option-3.ensures.local ∙ ap₂ with_rule side c.option-3.ensures.rule in
    let listen = c.in_ok-arg-6.ensures.shape c.option-4.ensures.local ∙ ap₂ with_rule host c.option-4.ensures.rule in
    let idle = c.in_ok-arg-7.ensures.shape c.option-5.ensures.local ∙ ap₂ with_rule listen c.option-5.ensures.rule in
    let first_id = c.in_ok-arg-8.ensures.shape c.option-6.ensures.local ∙ ap₂ with_rule idle c.option-6.ensures.rule in
    let after_loss = c.in_ok-arg-9.ensures.shape c.option-7.ensures.local ∙ ap₂ with_rule first_id c.option-7.ensures.rule in
    IfOk-weaker c.arg-10.result _ _ (λ line adds. adds.shape c.option-8.ensures.local ∙ ap₂ with_rule after_loss c.option-8.ensures.rule) c.arg-10.ensures
