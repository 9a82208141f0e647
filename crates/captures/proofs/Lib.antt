mod Magic
mod Once
