pub mod ClaimNotes
