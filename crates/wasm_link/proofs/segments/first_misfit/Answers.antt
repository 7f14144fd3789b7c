use Rattle.std.proofs.Common.{◌≡◌, ◌+◌, ◌*◌, ◌<◌, ◌^◌, ◌∙◌, sym, ap, refl, length, arith}
use Rattle.std.proofs.lemmas.List.{length-map}
use Rattle.wasm_module.specs.Entries.{element_view, segment_view}
use Rattle.wasm_link.specs.Linking.{Fits, first_memory, table_size}
use Rattle.wasm_link.specs.Made.{element_span, data_span}
use Rattle.wasm_link.proofs.Places.{memory_size, spans_are, all_fit, misfit_element, misfit_data, place_fits}
use Rattle.wasm_link.proofs.segments.first_misfit.Goals as goal

pub overflow_cast-result : goal.overflow_cast-result
overflow_cast-result c =
    let m = c.args.whole.now in
    let place = place_fits (λ segment. Fits (element_span c.from-entries.result segment)) c.as_slice-elements.result.now c.in-Some.place c.in-Some.ensures in
    let size = ap length c.as_slice-elements.ensures in
    let one = length-map m.elements element_view in
    record { fits = omega (arith, place, size, one, c.requires.segments) }

pub overflow_add-result : goal.overflow_add-result
overflow_add-result c =
    let m = c.args.whole.now in
    let place = place_fits (λ segment. Fits (data_span (c.from-bytes.result * 65536) segment)) c.as_slice-3.result.now c.in_ok-place.place c.in_ok-place.ensures in
    let first = ap length c.as_slice-elements.ensures in
    let second = ap length c.as_slice-3.ensures in
    let one = length-map m.elements element_view in
    let two = length-map m.segments segment_view in
    let all : length c.as_slice-elements.result.now + c.in_ok-place.place < 2 ^ 32 = omega (arith, place, first, second, one, two, c.requires.segments) in
    record { fits = omega (arith, all) }

pub overflow_cast-result-2 : goal.overflow_cast-result-2
overflow_cast-result-2 c =
    let m = c.args.whole.now in
    let place = place_fits (λ segment. Fits (data_span (c.from-bytes.result * 65536) segment)) c.as_slice-3.result.now c.in_ok-place.place c.in_ok-place.ensures in
    let first = ap length c.as_slice-elements.ensures in
    let second = ap length c.as_slice-3.ensures in
    let one = length-map m.elements element_view in
    let two = length-map m.segments segment_view in
    record { fits = omega (arith, place, first, second, one, two, c.requires.segments) }

pub returns-in-Some : goal.returns-in-Some
returns-in-Some c =
    let m = c.args.whole.now in
    let bytes = length (first_memory m.memories).bytes in
    let entries = c.from-entries.result in
    let elements = c.as_slice-elements.result.now in
    let is = spans_are m elements m.segments entries bytes c.as_slice-elements.ensures refl (c.from-entries.ensures ∙ c.least_size.ensures ∙ ap table_size c.as_slice.ensures) refl in
    misfit_element elements m.segments entries bytes _ is c.in-Some.place c.in-Some.ensures

pub returns-in_err-place : goal.returns-in_err-place
returns-in_err-place c =
    let m = c.args.whole.now in
    let bytes = c.from-bytes.result * 65536 in
    let entries = c.from-entries.result in
    let elements = c.as_slice-elements.result.now in
    let segments = c.as_slice-3.result.now in
    let size : bytes ≡ length (first_memory m.memories).bytes = ap (λ z. z * 65536) (c.from-bytes.ensures ∙ c.least_size-2.ensures ∙ ap table_size c.as_slice-2.ensures) ∙ sym (memory_size m.memories) in
    let is = spans_are m elements segments entries bytes c.as_slice-elements.ensures c.as_slice-3.ensures (c.from-entries.ensures ∙ c.least_size.ensures ∙ ap table_size c.as_slice.ensures) size in
    rw c.from_residual.ensures (all_fit elements segments entries bytes _ is c.in_default.ensures c.in_err-place.ensures)

pub returns : goal.returns
returns c =
    let m = c.args.whole.now in
    let bytes = c.from-bytes.result * 65536 in
    let entries = c.from-entries.result in
    let elements = c.as_slice-elements.result.now in
    let segments = c.as_slice-3.result.now in
    let size : bytes ≡ length (first_memory m.memories).bytes = ap (λ z. z * 65536) (c.from-bytes.ensures ∙ c.least_size-2.ensures ∙ ap table_size c.as_slice-2.ensures) ∙ sym (memory_size m.memories) in
    let is = spans_are m elements segments entries bytes c.as_slice-elements.ensures c.as_slice-3.ensures (c.from-entries.ensures ∙ c.least_size.ensures ∙ ap table_size c.as_slice.ensures) size in
    misfit_data elements segments entries bytes _ is c.in_ok-place.place (length elements + c.in_ok-place.place) refl c.in_default.ensures c.in_ok-place.ensures
