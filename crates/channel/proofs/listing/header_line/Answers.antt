use Rattle.std.proofs.Common.{◌≡◌, IfOk, string_bytes, arith, rules}
use Rattle.channel.proofs.Lengths.{header_fits, line_made}
use Rattle.channel.specs.Listing.{header}
use Rattle.channel.proofs.listing.header_line.Goals as goal

pub returns : goal.returns
returns c =
    let line = header c.args.summary.states c.args.summary.rules in
    let written : IfOk c.format.result (λ s. string_bytes s ≡ line) = search rules in
    line_made c.format.result line (header_fits c.args.summary.states c.args.summary.rules (omega arith) (omega arith)) written
