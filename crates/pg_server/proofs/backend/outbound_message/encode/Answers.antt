use Rattle.std.proofs.Common.{ℕ, List, ◌++◌, length, sym, ap, ◌∙◌, arith}
use Rattle.pg_base.specs.Cutting.{frame}
use Rattle.pg_base.proofs.TaggedLemmas.{len_fits, no_part_fault, put_within}
use Rattle.pg_server.specs.Backend.OutboundMessage.{body}
use Rattle.pg_server.specs.Backend.Message.{law_of}
use Rattle.pg_server.proofs.BackendMessageLemmas.{own_message, accepted}
use Rattle.pg_server.proofs.backend.outbound_message.encode.Goals as goal

pub returns-clause-encodes : goal.returns-clause-encodes
returns-clause-encodes g c =
    let message = g.M.OutboundMessage.message c.args.message.now in
    let law = law_of message in
    let none = accepted _ message c.in_ok-len.len c.parts-parts.ensures (sym c.checked_len.ensures ∙ c.in_ok-len.was) in
    let is_frame = ap (λ (tag : ℕ). frame tag (g.M.Body.Part.part c.parts-parts.result).text) c.tag-tag.ensures ∙ ap (frame law.tag) c.parts-parts.ensures.text in
    let written = c.put.ensures.written ∙ ap (λ (l : List ℕ). l ++ frame c.tag-tag.result (g.M.Body.Part.part c.parts-parts.result).text) c.reserve.ensures.items ∙ ap (λ (l : List ℕ). c.args.buf.now.items ++ l) is_frame in
    put_within law.part_fault law.tag (length (body law)) (body law) c.args.buf.now c.put.new.sink (no_part_fault law.part_fault (length (body law)) none) (len_fits law.part_fault (length (body law)) none) written
    (omega (arith, c.put.ensures.capacity, c.reserve.ensures.capacity))

pub returns-clause-read : goal.returns-clause-read
returns-clause-read g c =
    let message = g.M.OutboundMessage.message c.args.message.now in
    own_message message (accepted _ message c.in_ok-len.len c.parts-parts.ensures (sym c.checked_len.ensures ∙ c.in_ok-len.was)) (c.parts-parts.ensures.range c.put.ensures.range)
