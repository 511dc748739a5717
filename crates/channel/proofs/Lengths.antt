-- Every line that a listing writes fits the least buffer.
use Rattle.std.proofs.Common.{◌≡◌, ℕ, ◌^◌, ◌<◌, ◌≤◌, List, ◌++◌, length, IfOk, Ok, Err, string_bytes, codes, decimal, Result, String, ap, arith, lit≤}
use Rattle.std.specs.declared.alloc.AllocError.{AllocError}
use Rattle.std.specs.declared.alloc.Global.{Global}
use Rattle.std.proofs.lemmas.Fmt.{length-decimal-le}
use Rattle.std.proofs.lemmas.List.{length-append}
use Rattle.channel.specs.Faults.{layer, word, place}
use Rattle.channel.specs.Listing.{header, least_buffer, refused_line}
use Rattle.channel.specs.Steps.{LineText}
use Rattle.channel.specs.declared.fault.FileFault.{FileFault}
use Rattle.channel.specs.declared.fault.Layer.{Layer}
use Rattle.channel.specs.declared.fault.Layer.TheVariants.{File, Rows, Roster, Rule}

pub header_fits : (states rules : ℕ) → states < 2 ^ 16 → rules < 2 ^ 64 → length (header states rules) ≤ least_buffer
header_fits states rules h k =
    let a = length-decimal-le 5 states (omega arith) (omega arith) (omega arith) in
    let b = length-decimal-le 20 rules (omega arith) (omega arith) (omega arith) in
    omega (arith, a, b, length-append (decimal states) (codes " rules " ++ (decimal rules ++ codes "\n")), length-append (decimal rules) (codes "\n"))

word_length : (l : Layer) → length (word l) ≤ 6
word_length File = lit≤ tt
word_length Rows = lit≤ tt
word_length Roster = lit≤ tt
word_length Rule = lit≤ tt

pub refused_fits : (n : ℕ) (e : FileFault) → n < 2 ^ 8 → place e < 2 ^ 64 → length (refused_line n e) ≤ least_buffer
refused_fits n e h k =
    let a = length-decimal-le 3 n (omega arith) (omega arith) (omega arith) in
    let b = length-decimal-le 20 (place e) (omega arith) (omega arith) (omega arith) in
    let last = decimal (place e) ++ codes "\n" in
    let rest = word (layer e) ++ (codes " " ++ last) in
    omega (arith, a, b, word_length (layer e), length-append (decimal n) (codes " " ++ rest), length-append (word (layer e)) (codes " " ++ last), length-append (decimal (place e)) (codes "\n"))

-- a text that was made is the line, which fits
pub line_made : (r : Result (String Global) AllocError) (line : List ℕ) → length line ≤ least_buffer → IfOk r (λ s. string_bytes s ≡ line) → IfOk r (λ s. LineText line (string_bytes s))
line_made (Ok s) line h m = record { same = m; fits = omega (arith, ap length m) }
line_made (Err e) line h m = tt
