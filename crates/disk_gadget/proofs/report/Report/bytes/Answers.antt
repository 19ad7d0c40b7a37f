use Rattle.std.proofs.Common.{◌≡◌, ap, ◌∙◌, length, rules}
use Rattle.disk_gadget.specs.Reports.{status_bytes}
use Rattle.disk_gadget.specs.inner.Outcomes.{status_length}
use Rattle.disk_gadget.proofs.report.Report.bytes.Goals as goal

pub returns-clause-length : goal.returns-clause-length
returns-clause-length c =
    let e : c.push.new.self ≡ status_bytes c.args.self.now = search rules in
    ap length e ∙ status_length c.args.self.now
