use Rattle.std.proofs.Common.{List, ℕ, [], ◌++◌, subst, ap, ap₂, ◌∙◌, decimal, length}
use Rattle.at_edge.specs.Writing.{WritesAll}
use Rattle.http_wire.specs.Written.{authorization_piece}
use Rattle.http_wire.proofs.Handing.{begins, is_at}
use Rattle.http_wire.proofs.Requests.{pieces_of_request}
use Rattle.http_wire.proofs.request_writing.write_request.Goals as goal

pub returns : goal.returns
returns g c =
    let first = g.K.Sink.sink c.args.sink.now in
    let behind = λ (xs ys : List ℕ). xs ++ ys in
    let start = is_at first first c.no_pieces-pieces.result.held.items [] c.no_pieces-pieces.result.failed c.no_pieces-pieces.ensures.failed (begins first c.no_pieces-pieces.result.held.items c.no_pieces-pieces.ensures.held) in
    let t1 = [] ++ c.as_bytes.result.now in
    let t2 = t1 ++ c.as_bytes-2.result.now in
    let t3 = t2 ++ c.as_bytes-3.result.now in
    let t4 = t3 ++ c.as_bytes-4.result.now in
    let t5 = t4 ++ c.args.host.now in
    let t6 = t5 ++ authorization_piece c.args.request.now.authorization in
    let t7 = t6 ++ c.as_bytes-5.result.now in
    let t8 = t7 ++ c.as_bytes-6.result.now in
    let t9 = t8 ++ c.as_bytes-7.result.now in
    let t10 = t9 ++ c.as_bytes-8.result.now in
    let t11 = t10 ++ c.as_slice.result.now in
    let done =
    c.put_piece-10.ensures first t10 (c.put_piece-9.ensures first t9 (c.put_piece-8.ensures first t8 (c.put_piece-7.ensures first t7 (c.put_piece-6.ensures first t6 (c.put_authorization.ensures first t5
    (c.put_piece-5.ensures first t4 (c.put_piece-4.ensures first t3 (c.put_piece-3.ensures first t2 (c.put_piece-2.ensures first t1 (c.put_piece.ensures first [] start)))))))))) in
    let e4 = ap₂ behind (ap₂ behind (ap₂ behind (ap (behind []) c.as_bytes.ensures.value) c.as_bytes-2.ensures.value) c.as_bytes-3.ensures.value) c.as_bytes-4.ensures.value in
    let e6 = ap (λ (xs : List ℕ). (xs ++ c.args.host.now) ++ authorization_piece c.args.request.now.authorization) e4 in
    let e8 = ap₂ behind (ap₂ behind e6 (c.as_bytes-5.ensures.value ∙ c.close_line.ensures.value)) c.as_bytes-6.ensures.value in
    let e9 = ap₂ behind e8 (c.as_bytes-7.ensures.value ∙ c.format.ensures.text ∙ ap decimal c.len.ensures) in
    let e11 = ap₂ behind (ap₂ behind e9 c.as_bytes-8.ensures.value) c.as_slice.ensures.items in
    subst (λ (bytes : List ℕ). WritesAll first (g.K.Sink.sink c.end.new.sink) c.end.result bytes)
    (e11 ∙ pieces_of_request c.args.request.now.method c.args.request.now.target c.args.host.now c.args.request.now.authorization c.args.request.now.close (decimal (length c.args.request.now.body.items)) c.args.request.now.body.items)
    (c.end.ensures first t11 done)
