-- The sign that each byte is.
use Rattle.std.specs.Prelude.{ℕ, true, false, cond, ◌&&◌, ◌==◌, nat_le}
use Rattle.ctl.specs.declared.Connective.TheVariants.{And, Or}
use Rattle.ctl.specs.declared.Quantifier.TheVariants.{All, Exists}
use Rattle.ctl.specs.declared.Unary.TheVariants.{Next, Eventually, Always}
use Rattle.ctl.specs.declared.Binary.TheVariants.{Until, Release}
use Rattle.rule.specs.declared.sign.Sign.{Sign}
use Rattle.rule.specs.declared.sign.Sign.TheVariants.{Letter, Constant, Not, Connective, Open, Close, Quantifier, Unary, Binary, Space, Other}

-- a to z, 0, 1, ! & | ( ) A E X F G U R and the space; every other byte is no sign
abbrev pub sign_of : ℕ → Sign
sign_of b =
    cond (nat_le 97 b && nat_le b 122) (Letter b)
    (cond (b == 48) (Constant false)
    (cond (b == 49) (Constant true)
    (cond (b == 33) Not
    (cond (b == 38) (Connective And)
    (cond (b == 124) (Connective Or)
    (cond (b == 40) Open
    (cond (b == 41) Close
    (cond (b == 65) (Quantifier All)
    (cond (b == 69) (Quantifier Exists)
    (cond (b == 88) (Unary Next)
    (cond (b == 70) (Unary Eventually)
    (cond (b == 71) (Unary Always)
    (cond (b == 85) (Binary Until)
    (cond (b == 82) (Binary Release)
    (cond (b == 32) Space Other)))))))))))))))
