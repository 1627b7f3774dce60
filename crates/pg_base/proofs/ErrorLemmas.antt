-- Kinds of message and faults that are equal by their `==` are the same.
use Rattle.std.proofs.Common.{◌≡◌, true, false, refl, rules}
use Rattle.std.proofs.lemmas.Bool.{and_parts}
use denote.Enum.Bare.{same_true}
use Rattle.pg_base.specs.contracts.format.BackendMessageFormat.{the_type}
use Rattle.pg_base.specs.declared.format.BackendMessageFormat.{BackendMessageFormat}
use Rattle.pg_base.specs.declared.error.ProtocolFault.{ProtocolFault}
use Rattle.pg_base.specs.declared.error.ProtocolFault.TheVariants as faults
use Rattle.pg_base.specs.contracts.format.BackendMessageFormatPartialEq.TheImpl as formats-eq
use Rattle.pg_base.specs.contracts.error.ProtocolFaultPartialEq.TheImpl as faults-eq

pub same_formats : (a b : BackendMessageFormat) → formats-eq.ghosts.eq a b ≡ true → a ≡ b
same_formats a b = same_true the_type (search rules) a b

never : false ≡ true → ⊥
never clash = cc

pub same_faults : (a b : ProtocolFault) → faults-eq.ghosts.eq a b ≡ true → a ≡ b
same_faults (faults.TooManyParamFormats n) (faults.TooManyParamFormats m) e = search rules
same_faults (faults.TooManyResultFormats n) (faults.TooManyResultFormats m) e = search rules
same_faults (faults.TooManyParamTypes n) (faults.TooManyParamTypes m) e = search rules
same_faults (faults.TooMany n) (faults.TooMany m) e = search rules
same_faults (faults.MessageTooLong n) (faults.MessageTooLong m) e = search rules
same_faults (faults.WrongFormat f g) (faults.WrongFormat h i) e =
    let parts = and_parts (formats-eq.ghosts.eq f h) (formats-eq.ghosts.eq g i) e in
    let first = same_formats f h parts.0 in
    let second = same_formats g i parts.1 in
    cc
same_faults (faults.BodyTooLong n) (faults.BodyTooLong m) e = search rules
same_faults (faults.UnknownMessageType n) (faults.UnknownMessageType m) e = search rules
same_faults (faults.UnknownLetter n) (faults.UnknownLetter m) e = search rules
same_faults (faults.UnknownAuthentication n) (faults.UnknownAuthentication m) e = search rules
same_faults (faults.UnknownStatus n) (faults.UnknownStatus m) e = search rules
same_faults faults.UnknownSeverity faults.UnknownSeverity e = refl
same_faults (faults.Short k l m) (faults.Short n o p) e = search rules
same_faults (faults.MissingNul n) (faults.MissingNul m) e = search rules
same_faults faults.NotUtf8 faults.NotUtf8 e = refl
same_faults faults.NoticeNotUtf8 faults.NoticeNotUtf8 e = refl
same_faults faults.ShortSaslItem faults.ShortSaslItem e = refl
same_faults faults.Base64 faults.Base64 e = refl
same_faults (faults.BadLength n) (faults.BadLength m) e = search rules
same_faults faults.TextHoldsNul faults.TextHoldsNul e = refl
same_faults faults.BadParams faults.BadParams e = refl
same_faults (faults.BadKeyLength n) (faults.BadKeyLength m) e = search rules
same_faults (faults.UnknownCode n) (faults.UnknownCode m) e = search rules
same_faults (faults.ValueLength k l) (faults.ValueLength m n) e = search rules
same_faults (faults.TrailingBytes n) (faults.TrailingBytes m) e = search rules
same_faults a b e = absurd (never e)
