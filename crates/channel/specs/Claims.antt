-- A channel file has one answer, as a statement. Assumes nothing.
use Rattle.std.specs.Prelude.{◌≡◌, ℕ, List}
use Rattle.channel.specs.Faults.{FileEarns}
use Rattle.channel.specs.Files.{LawfulFile}
use Rattle.channel.specs.declared.fault.FileFault.{FileFault}

-- a file has at most one summary, earns at most one fault, and never both
pub record OneAnswer (file : List ℕ) : Type 0 where
  pub one_summary : (states rules states' rules' : ℕ) → LawfulFile file states rules → LawfulFile file states' rules' → (states ≡ states') × (rules ≡ rules')
  pub not_both : (states rules : ℕ) (e : FileFault) → LawfulFile file states rules → FileEarns file e → ⊥
  pub one_fault : (e e' : FileFault) → FileEarns file e → FileEarns file e' → e ≡ e'

abbrev pub ChannelFileHasOneAnswer : Type 0
ChannelFileHasOneAnswer = (file : List ℕ) → OneAnswer file
