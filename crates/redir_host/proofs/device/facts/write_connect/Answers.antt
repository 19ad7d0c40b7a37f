use Rattle.std.proofs.Common.{sym, subst}
use Rattle.redir_wire.specs.declared.packet.Connect.{Connect}
use Rattle.redir_wire.specs.declared.packet.RedirControl.TheVariants as plain
use Rattle.redir_wire.specs.Written.{CanWrite}
use Rattle.redir_host.proofs.lemmas.write.Facts.{connect}
use Rattle.redir_host.proofs.device.facts.write_connect.Goals as goal

pub write-requires : goal.write-requires
write-requires c = subst (λ (e : Connect). CanWrite 0 c.args.caps (plain.Connect e)) (sym c.connect_of.ensures) (connect c.args.caps c.args.identity)
