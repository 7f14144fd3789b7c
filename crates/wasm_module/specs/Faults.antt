-- What a reader's fault is to the caller of `decode`.
use Rattle.wasm_values.specs.declared.read.ReadFault.{ReadFault}
use Rattle.wasm_values.specs.declared.read.ReadFault.TheVariants as read
use Rattle.wasm_module.specs.declared.module.DecodeFault.{DecodeFault}
use Rattle.wasm_module.specs.declared.module.DecodeFault.TheVariants as decode

abbrev pub decode_fault : ReadFault → DecodeFault
decode_fault read.Malformed = decode.Malformed
decode_fault read.Memory = decode.Memory
