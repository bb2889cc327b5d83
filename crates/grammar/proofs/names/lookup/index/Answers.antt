use Rattle.std.proofs.Common.{rules, ◌≡◌}
use Rattle.grammar.specs.Names.{index_of}
use Rattle.grammar.proofs.Found.{index_made}
use Rattle.grammar.proofs.names.lookup.index.Goals as goal

pub returns : goal.returns
returns g c =
    let made : c.new.result ≡ index_of {N = g.row.N} c.in_ok-ok.field-0 = index_made c.new.result c.in_ok-ok.field-0 c.new.ensures in
    search (made, rules)
