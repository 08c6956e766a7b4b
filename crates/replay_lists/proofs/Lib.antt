mod FromTheBack
mod UpToLast
mod Reading
