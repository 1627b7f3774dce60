-- Messages with free names, of the page's own values: how long they are, and that each makes the round trip.
use Rattle.std.proofs.Common.{◌≡◌, ℕ, ◌+◌, ◌*◌, ◌^◌, ◌<◌, ◌≤◌, All, List, [], ◌∷◌, ◌++◌, length, None, refl, arith, length-append}
use Rattle.std.specs.List.{flat_map}
use Rattle.std.specs.Option.{option_or}
use Rattle.pg_base.specs.declared.error.ProtocolFault.TheVariants.{TooManyParamFormats, TooManyResultFormats, TooManyParamTypes, BadParams}
use Rattle.pg_base.specs.Cutting.{max_length}
use Rattle.pg_base.specs.Numbers.{be16, be32}
use Rattle.pg_base.specs.Reading.{HoldsNo}
use Rattle.pg_base.specs.Ended.{ended}
use Rattle.pg_format.specs.Format.{Means}
use Rattle.pg_format.specs.Messages as page
use Rattle.pg_format.proofs.FormatLaws.FromClient as client
use Rattle.pg_send.specs.Counted.{too_many, counted16}
use Rattle.pg_send.specs.FrontendMessage.{fault}
use Rattle.pg_send.specs.FunctionCall.{function_call_body, function_call_count_fault, function_call_law, IsFunctionCallInRange}
use Rattle.pg_send.specs.RawBind.{raw_bind_body, raw_bind_count_fault, raw_bind_law, IsRawBindInRange, CanBindRoundTrip}
use Rattle.pg_send.specs.RawExecute.{raw_execute_body}
use Rattle.pg_send.specs.RawParse.{raw_parse_body, raw_parse_count_fault, raw_parse_law, CanParseRoundTrip}
use Rattle.pg_send.specs.SaslInitial.{any_sasl_body, any_sasl_law}
use Rattle.pg_send.specs.Values.{value_text, counted_values}
use Rattle.pg_send.proofs.CountedLemmas.{few, neither, length-counted16}
use Rattle.pg_base.proofs.TaggedLemmas.{len_fits, no_part_fault}
use Rattle.pg_send.proofs.ValuesLemmas.{itself, codes_fit, types_fit, value_fits, values_fit, length-counted_values}

length-ended : (text : List ℕ) → length (ended text) ≡ length text + 1
length-ended text = length-append text (0 ∷ [])

-- ---- a Parse

pub read_raw_parse : (p : page.Parse) → fault (raw_parse_law p) ≡ None → All (λ n. n < 2 ^ 32) p.types → CanParseRoundTrip p → Means page.parse (raw_parse_body p) p
read_raw_parse p f r k =
    let count = few TooManyParamTypes (length p.types) (no_part_fault (raw_parse_count_fault p) (length (raw_parse_body p)) f) in
    itself client.lawful_parse p ((k.statement, (k.query, types_fit p.types [] count r)), refl)

-- ---- a Bind

pub length-raw_bind_body : (b : page.Bind) → length (raw_bind_body b) ≡ length b.portal + length b.statement + length b.formats * 2 + length (flat_map value_text b.values) + length b.result_formats * 2 + 8
length-raw_bind_body b =
    let results : List ℕ = counted16 b.result_formats in
    let values : List ℕ = counted_values b.values in
    let formats : List ℕ = counted16 b.formats in
    omega (
      arith,
      length-append (ended b.portal) (ended b.statement ++ (formats ++ (values ++ results))),
      length-append (ended b.statement) (formats ++ (values ++ results)),
      length-append formats (values ++ results),
      length-append values results,
      length-ended b.portal,
      length-ended b.statement,
      length-counted16 b.formats,
      length-counted_values b.values,
      length-counted16 b.result_formats,
    )

-- its values are within the limit on the whole
pub values_of_raw_bind : (b : page.Bind) → fault (raw_bind_law b) ≡ None → length (flat_map value_text b.values) ≤ max_length
values_of_raw_bind b f = omega (arith, length-raw_bind_body b, len_fits (raw_bind_count_fault b) (length (raw_bind_body b)) f)

pub read_raw_bind : (b : page.Bind) → fault (raw_bind_law b) ≡ None → IsRawBindInRange b → CanBindRoundTrip b → Means page.bind (raw_bind_body b) b
read_raw_bind b f r k =
    let formats_fault = too_many TooManyParamFormats (length b.formats) in
    let results_fault = too_many TooManyResultFormats (length b.result_formats) in
    let values_fault = too_many (λ _. BadParams) (length b.values) in
    let counts = neither formats_fault (option_or results_fault values_fault) (no_part_fault (raw_bind_count_fault b) (length (raw_bind_body b)) f) in
    let later = neither results_fault values_fault counts.1 in
    let formats = few TooManyParamFormats (length b.formats) counts.0 in
    let results = few TooManyResultFormats (length b.result_formats) later.0 in
    let values = few (λ _. BadParams) (length b.values) later.1 in
    itself client.lawful_bind b (
      (
        k.portal,
        (
          k.statement,
          (
            codes_fit b.formats _ formats r.formats,
            (values_fit b.values _ values (values_of_raw_bind b f), codes_fit b.result_formats [] results r.result_formats),
          ),
        ),
      ),
      refl,
    )

-- ---- a FunctionCall

pub length-function_call_body : (f : page.FunctionCall) → length (function_call_body f) ≡ length f.formats * 2 + length (flat_map value_text f.arguments) + 10
length-function_call_body f =
    let result : List ℕ = be16 f.result_format in
    let arguments : List ℕ = counted_values f.arguments in
    let formats : List ℕ = counted16 f.formats in
    omega (arith, length-append (be32 f.object_id) (formats ++ (arguments ++ result)), length-append formats (arguments ++ result), length-append arguments result, length-counted16 f.formats, length-counted_values f.arguments)

pub values_of_function_call : (f : page.FunctionCall) → fault (function_call_law f) ≡ None → length (flat_map value_text f.arguments) ≤ max_length
values_of_function_call f e = omega (arith, length-function_call_body f, len_fits (function_call_count_fault f) (length (function_call_body f)) e)

pub read_function_call : (f : page.FunctionCall) → fault (function_call_law f) ≡ None → IsFunctionCallInRange f → Means page.function_call (function_call_body f) f
read_function_call f e r =
    let counts = neither (too_many TooManyParamFormats (length f.formats)) (too_many (λ _. BadParams) (length f.arguments)) (no_part_fault (function_call_count_fault f) (length (function_call_body f)) e) in
    let formats = few TooManyParamFormats (length f.formats) counts.0 in
    let arguments = few (λ _. BadParams) (length f.arguments) counts.1 in
    itself client.lawful_function_call f (
      (
        r.object_id,
        (
          codes_fit f.formats _ formats r.formats,
          (values_fit f.arguments _ arguments (values_of_function_call f e), r.result_format),
        ),
      ),
      refl,
    )

-- ---- the others

pub read_raw_execute : (e : page.Execute) → e.limit < 2 ^ 32 → HoldsNo 0 e.portal → Means page.execute (raw_execute_body e) e
read_raw_execute e small clean = itself client.lawful_execute e ((clean, small), refl)

pub read_raw_target : (target : page.Targeted) → HoldsNo 0 target.name → Means page.targeted (page.targeted.Writes target) target
read_raw_target target clean = itself client.lawful_targeted target ((tt, clean), refl)

pub length-any_sasl_body : (s : page.SaslInitial) → length (any_sasl_body s) ≡ length s.mechanism + length (value_text s.response) + 1
length-any_sasl_body s = omega (arith, length-append (ended s.mechanism) (value_text s.response), length-ended s.mechanism)

pub response_of_any_sasl : (s : page.SaslInitial) → fault (any_sasl_law s) ≡ None → length (value_text s.response) ≤ max_length
response_of_any_sasl s f = omega (arith, length-any_sasl_body s, len_fits None (length (any_sasl_body s)) f)

pub read_any_sasl : (s : page.SaslInitial) → fault (any_sasl_law s) ≡ None → HoldsNo 0 s.mechanism → Means page.sasl_initial_response (any_sasl_body s) s
read_any_sasl s f clean = itself client.lawful_sasl_initial_response s ((clean, value_fits s.response [] (response_of_any_sasl s f)), refl)
