use Rattle.std.proofs.Common.{sym, subst, ◌∙◌}
use Rattle.redir_wire.specs.declared.packet.EpInfo.{EpInfo}
use Rattle.redir_wire.specs.declared.packet.InterfaceInfo.{InterfaceInfo}
use Rattle.redir_wire.specs.declared.packet.RedirControl.TheVariants as plain
use Rattle.redir_wire.specs.Written.{CanWrite}
use Rattle.redir_host.proofs.lemmas.write.Facts.{ep_info, interface_info}
use Rattle.redir_host.proofs.device.facts.write_facts.Goals as goal

pub write-requires : goal.write-requires
write-requires c =
    subst (λ (e : EpInfo). CanWrite 0 c.args.caps (plain.EpInfo e)) (sym (c.in_ok-endpoints.ensures ∙ c.ep_info.ensures.info)) (ep_info c.args.caps c.args.table.now)

pub write-requires-2 : goal.write-requires-2
write-requires-2 c =
    subst (λ (i : InterfaceInfo). CanWrite 0 c.args.caps (plain.InterfaceInfo i)) (sym (c.in_ok-interfaces.ensures)) (interface_info c.args.caps c.args.interfaces c.requires)
