use Rattle.std.proofs.Common.{◌≡◌, IfOk, string_bytes, arith, rules}
use Rattle.channel.proofs.Lengths.{refused_fits, line_made}
use Rattle.channel.specs.Listing.{refused_line}
use Rattle.channel.proofs.listing.refused_line.Goals as goal

pub returns : goal.returns
returns c =
    let line = refused_line c.args.number c.args.fault in
    let written : IfOk c.format.result (λ s. string_bytes s ≡ line) = search rules in
    line_made c.format.result line (refused_fits c.args.number c.args.fault (omega arith) (omega (arith, c.place-place.type_inv, c.place-place.ensures))) written
