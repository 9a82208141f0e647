use Rattle.std.proofs.Common.{◌≡◌, Err, MatchResult, subst, arith, rules}
use Rattle.captures.specs.declared.fault.CaptureFault.TheVariants.{NotCapture}
use Rattle.captures.specs.Formats.{Opens, Refused}
use Rattle.captures.proofs.Magic.{opens_says, refused_says}
use Rattle.captures.proofs.format.open.Goals as goal

pub returns-in_err-format-clause-says : goal.returns-in_err-format-clause-says
returns-in_err-format-clause-says c =
    let f = c.args.file.now in
    let is : Err NotCapture ≡ c.from_residual.result = search rules in
    subst (λ r. MatchResult r (Opens f) (Refused f)) is (refused_says f (λ i. omega (arith, c.type_inv.file i)) NotCapture (search rules))

pub returns-then-file-lt-HEADER : goal.returns-then-file-lt-HEADER
returns-then-file-lt-HEADER c = record { is = search rules; says = refused_says c.args.file.now (λ i. omega (arith, c.type_inv.file i)) _ (search rules) }

pub returns-then-link-ne1 : goal.returns-then-link-ne1
returns-then-link-ne1 c = record { is = search rules; says = refused_says c.args.file.now (λ i. omega (arith, c.type_inv.file i)) _ (search rules) }

pub returns : goal.returns
returns c = record { is = search rules; says = opens_says c.args.file.now (λ i. omega (arith, c.type_inv.file i)) _ (search rules) }
