-- The players' module links to the host calls.
use Rattle.std.proofs.Common.{◌≡◌, ℕ, zero, suc, ◌+◌, ◌*◌, ◌<◌, ◌==◌, Bool, true, false, ◌||◌, List, [], ◌∷◌, length, get_or, map, take, Some, None, All, refl, ap, sym, subst, ◌∙◌, arith}
use Rattle.std.specs.Prelude.{codes, slice_get}
use Rattle.std.specs.List.{list_any}
use Rattle.std.proofs.lemmas.Bool.{eq-eqb, false≢true}
use Rattle.std.proofs.lemmas.List.Elements.{All-from_recursion}
use Rattle.std.proofs.lemmas.Option.{same_Some}
use Rattle.wasm_module.specs.Entries.{Function}
use Rattle.wasm_values.specs.Syntax.{Ops}
use Rattle.wasm_values.specs.View.{ops_of}
use Rattle.wasm_values.specs.declared.host_sig.HostSig.{HostSig}
use Rattle.wasm_values.specs.declared.imports.Import.{Import}
use Rattle.wasm_values.specs.declared.imports.ImportDesc.TheVariants as import
use Rattle.wasm_values.specs.declared.exports.ExportDesc.TheVariants as export
use Rattle.wasm_values.specs.declared.types.FuncType.{FuncType}
use Rattle.wasm_values.specs.declared.types.ValType.TheVariants.{I32, I64}
use Rattle.wasm_typing.specs.Context.{locals_of}
use Rattle.wasm_steps.specs.Program.{Program, defined, imported}
use Rattle.wasm_link.specs.Linking.{HasLoop, IsLinked, IsOfKind, IsProgram, Names}
use Rattle.wasm_link.proofs.Names.{one_number}
use Rattle.host_calls.specs.Calls.{AreSignatures, all_calls, host_module, row}
use Rattle.host_calls.specs.declared.call.Call.{Call}
use Rattle.host_calls.specs.declared.call.Call.TheVariants as call
use Rattle.rule_check.proofs.Found.{mapped_at, mapped_back}
use Rattle.world_gen.specs.PlayerModule.{host_calls, host_types, imported as import_of, loop_codes, player_module, takes, turns}

-- ---- the signatures of all calls

abbrev pub signature : Call → HostSig
signature of = record {
  «module» = record { ref_ptr = (0, 0); now = host_module };
  name = record { ref_ptr = (0, 0); now = (row of).name };
  params = record { ref_ptr = (0, 0); now = (row of).params };
  result = Some (row of).result;
}

abbrev pub signatures : List HostSig
signatures = map signature all_calls

all_signatures : (calls : List Call) → AreSignatures (map signature calls) calls
all_signatures [] = tt
all_signatures (of ∷ calls) = (record { host = refl; name = refl; params = refl; result_is = refl }, all_signatures calls)

pub are_signatures : AreSignatures signatures all_calls
are_signatures = all_signatures all_calls

-- ---- which call an import names

-- the first two letters of a name
abbrev front : List ℕ → ℕ
front name = 256 * get_or name 0 0 + get_or name 1 0

-- Some call that is before this number begins with these letters.
abbrev begins_before : ℕ → ℕ → Bool
begins_before letters number = list_any (λ of. front (row of).name == letters) (take number all_calls)

later : (a b : Bool) → (a || b) ≡ false → b ≡ false
later true b is = absurd (false≢true (sym is))
later false b is = is

none_passes : (test : Call → Bool) (calls : List Call) (number i : ℕ) (of : Call) → list_any test (take number calls) ≡ false
    → i < number → slice_get calls i ≡ Some of → test of ≡ true → ⊥
none_passes test [] number i of none less there passes = absurd cc
none_passes test (first ∷ calls) zero i of none less there passes = omega arith
none_passes test (first ∷ calls) (suc number) zero of none less there passes =
    let here : test first ≡ true = ap test (same_Some first of there) ∙ passes in
    false≢true (sym none ∙ ap (λ b. b || list_any test (take number calls)) here)
none_passes test (first ∷ calls) (suc number) (suc i) of none less there passes =
    none_passes test calls number i of (later (test first) (list_any test (take number calls)) none) (omega arith) there passes

named : (name : List ℕ) (kind number : ℕ) (of : Call) → slice_get all_calls number ≡ Some of → name ≡ (row of).name
    → begins_before (front name) number ≡ false
    → Names signatures (import_of name kind) number (signature of)
named name kind number of there same none = record {
  stands = mapped_at signature all_calls number of there;
  host = refl;
  name = same;
  first = λ earlier other less at host equal.
      let back = mapped_back signature all_calls earlier other at in
      let letters : front (row back.0).name ≡ front name =
      ap (λ (sig : HostSig). front sig.name.now) back.2 ∙ ap front (sym equal) in
      none_passes (λ of. front (row of).name == front name) all_calls number earlier back.0 none less back.1
      (eq-eqb (front (row back.0).name) (front name) letters);
}

-- the calls of the module's imports, each with its number and its type
count_named : Names signatures (import_of (codes "count") 0) 10 (signature call.Count)
count_named = named (codes "count") 0 10 call.Count refl refl refl

me_named : Names signatures (import_of (codes "me") 0) 1 (signature call.Me)
me_named = named (codes "me") 0 1 call.Me refl refl refl

get_named : Names signatures (import_of (codes "get") 1) 12 (signature call.Get)
get_named = named (codes "get") 1 12 call.Get refl refl refl

harvest_named : Names signatures (import_of (codes "harvest") 2) 24 (signature call.Harvest)
harvest_named = named (codes "harvest") 2 24 call.Harvest refl refl refl

transfer_named : Names signatures (import_of (codes "transfer") 3) 17 (signature call.Transfer)
transfer_named = named (codes "transfer") 3 17 call.Transfer refl refl refl

drop_named : Names signatures (import_of (codes "drop") 4) 16 (signature call.DropLoad)
drop_named = named (codes "drop") 4 16 call.DropLoad refl refl refl

move_named : Names signatures (import_of (codes "move") 4) 37 (signature call.Move)
move_named = named (codes "move") 4 37 call.Move refl refl refl

of_kind : (name : List ℕ) (kind number : ℕ) (of : Call) (type : FuncType)
    → Names signatures (import_of name kind) number (signature of) → slice_get host_types kind ≡ Some type
    → type.params ≡ (row of).params → type.result ≡ Some (row of).result
    → IsOfKind signatures host_types (import_of name kind)
of_kind name kind number of type names declared params result = record {
  number = number;
  sig = signature of;
  index = kind;
  type = type;
  named = names;
  func = refl;
  declared = declared;
  params = params;
  result = result;
}

all_of_kind : All (IsOfKind signatures host_types) host_calls
unfolding host_calls host_types
all_of_kind =
    All-from_recursion (IsOfKind signatures host_types) host_calls (
      of_kind (codes "count") 0 10 call.Count (takes [] (Some I32)) count_named refl refl refl,
      (
        of_kind (codes "me") 0 1 call.Me (takes [] (Some I32)) me_named refl refl refl,
        (
          of_kind (codes "get") 1 12 call.Get (takes (I32 ∷ I32 ∷ []) (Some I64)) get_named refl refl refl,
          (
            of_kind (codes "harvest") 2 24 call.Harvest (takes (I64 ∷ I64 ∷ []) (Some I32)) harvest_named refl refl refl,
            (
              of_kind (codes "transfer") 3 17 call.Transfer (takes (I64 ∷ I64 ∷ I32 ∷ []) (Some I32)) transfer_named refl refl refl,
              (
                of_kind (codes "drop") 4 16 call.DropLoad (takes (I64 ∷ I32 ∷ []) (Some I32)) drop_named refl refl refl,
                (of_kind (codes "move") 4 37 call.Move (takes (I64 ∷ I32 ∷ []) (Some I32)) move_named refl refl refl, tt),
              ),
            ),
          ),
        ),
      ),
    )

-- ---- the program

abbrev pub the_program : Program
the_program = record {
  types = host_types;
  functions =
      imported (takes [] (Some I32)) 10
      ∷ imported (takes [] (Some I32)) 1
      ∷ imported (takes (I32 ∷ I32 ∷ []) (Some I64)) 12
      ∷ imported (takes (I64 ∷ I64 ∷ []) (Some I32)) 24
      ∷ imported (takes (I64 ∷ I64 ∷ I32 ∷ []) (Some I32)) 17
      ∷ imported (takes (I64 ∷ I32 ∷ []) (Some I32)) 16
      ∷ imported (takes (I64 ∷ I32 ∷ []) (Some I32)) 37
      ∷ defined (takes [] None) 3 (ops_of turns)
      ∷ [];
}

-- the function of an import, whatever is said of its number and its type
imported_as : (name : List ℕ) (kind number index known : ℕ) (of : Call) (entry : Import) (sig : HostSig) (type declared : FuncType)
    → Names signatures (import_of name kind) number (signature of) → slice_get host_types kind ≡ Some type
    → import_of name kind ≡ entry → Names signatures entry known sig → entry.desc ≡ import.Func index
    → slice_get host_types index ≡ Some declared → Some (imported type number) ≡ Some (imported declared known)
imported_as name kind number index known of entry sig type declared names has same given func stands =
    let numbers : number ≡ known =
    one_number number known (signature of) sig (subst (λ (e : Import). Names signatures e number (signature of)) same names) given in
    let kinds : kind ≡ index = (let both : import.Func kind ≡ import.Func index = ap (λ (e : Import). e.desc) same ∙ func in cc) in
    let types : type ≡ declared = same_Some type declared (sym has ∙ ap (slice_get host_types) kinds ∙ stands) in
    λ i. Some (imported (types i) (numbers i))

imports_are : (i number index : ℕ) (entry : Import) (sig : HostSig) (type : FuncType)
    → slice_get host_calls i ≡ Some entry → Names signatures entry number sig → entry.desc ≡ import.Func index
    → slice_get host_types index ≡ Some type → slice_get the_program.functions i ≡ Some (imported type number)
unfolding host_calls host_types
imports_are zero number index entry sig type at =
    imported_as (codes "count") 0 10 index number call.Count entry sig (takes [] (Some I32)) type count_named refl (same_Some _ entry at)
imports_are (suc zero) number index entry sig type at =
    imported_as (codes "me") 0 1 index number call.Me entry sig (takes [] (Some I32)) type me_named refl (same_Some _ entry at)
imports_are (suc (suc zero)) number index entry sig type at =
    imported_as (codes "get") 1 12 index number call.Get entry sig (takes (I32 ∷ I32 ∷ []) (Some I64)) type get_named refl (same_Some _ entry at)
imports_are (suc (suc (suc zero))) number index entry sig type at =
    imported_as (codes "harvest") 2 24 index number call.Harvest entry sig (takes (I64 ∷ I64 ∷ []) (Some I32)) type harvest_named refl (same_Some _ entry at)
imports_are (suc (suc (suc (suc zero)))) number index entry sig type at =
    imported_as (codes "transfer") 3 17 index number call.Transfer entry sig (takes (I64 ∷ I64 ∷ I32 ∷ []) (Some I32)) type transfer_named refl (same_Some _ entry at)
imports_are (suc (suc (suc (suc (suc zero))))) number index entry sig type at =
    imported_as (codes "drop") 4 16 index number call.DropLoad entry sig (takes (I64 ∷ I32 ∷ []) (Some I32)) type drop_named refl (same_Some _ entry at)
imports_are (suc (suc (suc (suc (suc (suc zero)))))) number index entry sig type at =
    imported_as (codes "move") 4 37 index number call.Move entry sig (takes (I64 ∷ I32 ∷ []) (Some I32)) type move_named refl (same_Some _ entry at)
imports_are (suc (suc (suc (suc (suc (suc (suc i))))))) number index entry sig type at = absurd cc

own_is : (i index : ℕ) (type : FuncType) (function : Function Ops)
    → slice_get player_module.funcs i ≡ Some index → slice_get host_types index ≡ Some type
    → slice_get loop_codes i ≡ Some function
    → slice_get the_program.functions (length host_calls + i)
    ≡ Some (defined type (length (locals_of function.0)) function.1)
unfolding player_module host_calls host_types loop_codes
own_is zero index type function func declared code =
    let kind : 5 ≡ index = same_Some 5 index func in
    let of_type : takes [] None ≡ type = same_Some (takes [] None) type (ap (slice_get host_types) kind ∙ declared) in
    let whole : Function Ops = (record { count = 3; value = I32 } ∷ [], ops_of turns) in
    let same : whole ≡ function = same_Some whole function code in
    λ i. Some (defined (of_type i) (length (locals_of (same i).0)) (same i).1)
own_is (suc i) index type function func declared code = absurd cc

is_program : IsProgram signatures player_module the_program
unfolding player_module host_calls loop_codes
is_program = record { types = refl; count = refl; imports = imports_are; own = own_is }

-- ---- the whole

has_loop : HasLoop player_module 7
unfolding player_module host_calls host_types
has_loop = record {
  place = 0;
  entry = record { name = codes "loop"; desc = export.Func 7 };
  type = takes [] None;
  stands = refl;
  name = refl;
  kind = refl;
  typed = (5, refl, refl);
  params = refl;
  result = refl;
}

pub linked : IsLinked signatures player_module (record { whole = player_module; program = the_program; main = 7 })
unfolding player_module
linked = record {
  same = refl;
  imports = all_of_kind;
  main = has_loop;
  segments = λ k d less. absurd (omega arith);
  program = is_program;
}
