use Rattle.std.specs.Prelude.{[], ◌∷◌, ◌++◌, codes}
use Rattle.std.proofs.Common.{refl, arith, inr}
use Rattle.pg_base.specs.declared.error.ProtocolFault.TheVariants.{UnknownSeverity}
use Rattle.pg_format.specs.Format.{IsFaultOf}
use Rattle.pg_format.specs.Messages.{notice}
use Rattle.pg_format.specs.Notices.{text_fault, read_part, notice_fault}
use Rattle.pg_format.proofs.ExamplesLemmas.{clean, field_clean, second_fault}
use Rattle.pg_format.proofs.FormatLaws.FromServer.{lawful_fields}
use Rattle.pg_format.proofs.laws.examples.examples_of_severities.Goals as goal

no_severity : IsFaultOf notice (86 ∷ codes "INF" ++ 0 ∷ 0 ∷ []) UnknownSeverity
unfolding read_part notice_fault lib.Utf8.encode
no_severity =
    inr (record {
      value = (86, codes "INF") ∷ [];
      rest = [];
      reads = lawful_fields.written ((86, codes "INF") ∷ []) [] ((((omega arith, clean (codes "INF") refl), (λ e. omega (arith, e))), tt), refl);
      is = second_fault (text_fault (codes "INF")) UnknownSeverity (field_clean (codes "INF") (codes "INF", (refl, refl)));
    })

pub returns-clause-of_error : goal.returns-clause-of_error
returns-clause-of_error c = no_severity

pub returns-clause-of_notice : goal.returns-clause-of_notice
returns-clause-of_notice c = no_severity
