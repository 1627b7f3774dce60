use Rattle.std.specs.Prelude.{◌≡◌, ℕ, ◌<◌, ◌^◌, List, [], ◌∷◌, ◌++◌, length, codes, replicate, Some}
use Rattle.std.proofs.Common.{refl, arith, inl, inr}
use Rattle.pg_base.specs.declared.error.ProtocolFault.{ProtocolFault}
use Rattle.pg_base.specs.declared.error.ProtocolFault.TheVariants.{BadKeyLength}
use Rattle.pg_format.specs.Examples.{startup_of_ann, cancel_by_four_bytes, cancel_by_256_bytes}
use Rattle.pg_format.specs.Format.{IsFaultOf}
use Rattle.pg_format.specs.Format.Parts.{be_u32}
use Rattle.pg_format.specs.Messages.{key_fault, opening, tls, gssapi, by_code, first_message}
use Rattle.pg_format.proofs.ExamplesLemmas.{clean}
use Rattle.pg_format.proofs.FormatLaws.FromClient.{lawful_first_message}
use Rattle.pg_format.proofs.FormatLaws.Parts.{lawful_unsigned}
use Rattle.pg_format.proofs.laws.examples.examples_without_a_tag.Goals as goal

-- the fault of what follows a code is that of the message
after_code : (code : ℕ) (bytes : List ℕ) (fault : ProtocolFault) → code < 256 ^ 4 → (by_code code).Breaks (length (be_u32.Writes code ++ bytes)) bytes fault → IsFaultOf first_message (be_u32.Writes code ++ bytes) fault
after_code code bytes fault fits p = inr (record { value = code; mid = bytes; reads = (lawful_unsigned 4 tt).written code bytes fits; breaks = p })

of_key : (key : List ℕ) (fault : ProtocolFault) → key_fault (length key) ≡ Some fault → IsFaultOf first_message (4 ∷ 210 ∷ 22 ∷ 46 ∷ 0 ∷ 0 ∷ 1 ∷ 0 ∷ key) fault
of_key key fault is =
    after_code 80877102 (0 ∷ 0 ∷ 1 ∷ 0 ∷ key) fault (omega arith) (inr (record {
      value = 256;
      mid = key;
      reads = (lawful_unsigned 4 tt).written 256 key (omega arith);
      breaks = inr (record { value = key; rest = []; reads = (refl, refl); is = is });
    }))

pub returns-clause-startup : goal.returns-clause-startup
returns-clause-startup c = lawful_first_message.written startup_of_ann.value [] ((omega arith, (((((clean (codes "user") refl, clean (codes "ann") refl), (λ e. absurd (cc e))), tt), refl), refl)), refl)

pub returns-clause-minor_version : goal.returns-clause-minor_version
returns-clause-minor_version c = lawful_first_message.written (opening 2 []) [] ((omega arith, ((tt, refl), refl)), refl)

pub returns-clause-startup_and_more : goal.returns-clause-startup_and_more
returns-clause-startup_and_more c =
    after_code 196608 (0 ∷ 7 ∷ []) _ (omega arith) (inr (record { value = []; mid = 7 ∷ []; reads = record { mid = 0 ∷ 7 ∷ []; are_read = refl; ends = refl }; breaks = record { some = omega arith; is = refl } }))

pub returns-clause-name_without_a_value : goal.returns-clause-name_without_a_value
returns-clause-name_without_a_value c =
    after_code 196608 (codes "a" ++ 0 ∷ codes "b") _ (omega arith) (inl (record {
      some = [];
      mid = codes "a" ++ 0 ∷ codes "b";
      are_read = refl;
      goes_on = λ e. omega (arith, e);
      breaks = inr (record {
        value = codes "a";
        mid = codes "b";
        reads = record { clean = clean (codes "a") refl; parts = refl };
        breaks = record { no_nul = clean (codes "b") refl; is = refl };
      });
    }))

pub returns-clause-cancel_request : goal.returns-clause-cancel_request
returns-clause-cancel_request c = lawful_first_message.written cancel_by_four_bytes.value [] ((omega arith, ((omega arith, (refl, refl)), refl)), refl)

pub returns-clause-longest_key : goal.returns-clause-longest_key
returns-clause-longest_key c = lawful_first_message.written cancel_by_256_bytes.value [] ((omega arith, ((omega arith, (refl, refl)), refl)), refl)

pub returns-clause-short_key : goal.returns-clause-short_key
returns-clause-short_key c = of_key (7 ∷ 0 ∷ 8 ∷ []) (BadKeyLength 3) refl

pub returns-clause-long_key : goal.returns-clause-long_key
returns-clause-long_key c = of_key (replicate 257 7) (BadKeyLength 257) refl

pub returns-clause-ssl_request : goal.returns-clause-ssl_request
returns-clause-ssl_request c = lawful_first_message.written tls [] ((omega arith, ((refl, refl), refl)), refl)

pub returns-clause-gss_enc_request : goal.returns-clause-gss_enc_request
returns-clause-gss_enc_request c = lawful_first_message.written gssapi [] ((omega arith, ((refl, refl), refl)), refl)

pub returns-clause-unknown_code : goal.returns-clause-unknown_code
returns-clause-unknown_code c = after_code 80877105 [] _ (omega arith) refl
