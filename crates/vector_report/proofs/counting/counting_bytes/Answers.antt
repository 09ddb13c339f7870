use Rattle.std.proofs.Common.{rules}
use Rattle.vector_report.proofs.Counted.{counting_from}
use Rattle.vector_report.proofs.counting.counting_bytes.Goals as goal

pub returns : goal.returns
returns c =
    let items = c.from_fn.ensures.items in
    counting_from c.from_fn.result 256 items.long (λ i h. let k = items.at i 0 h in search (rules, k))
